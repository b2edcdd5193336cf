use denote.Param.Send.{sendable}
use Rattle.comm_c.proofs.Crossing.{builtin_target_send}
use Rattle.comm_c.proofs.desk.Desk.drop.Goals as goal

pub end-requires-send-T : goal.end-requires-send-T
end-requires-send-T c κs = search (sendable, builtin_target_send) depth 40
