use denote.Param.Send.{sendable}
use Rattle.comm_c.proofs.Crossing.{builtin_target_send}
use Rattle.comm_c.proofs.desk.Desk.join.Goals as goal

pub join-requires-send-T : goal.join-requires-send-T
join-requires-send-T c κs = search (sendable, builtin_target_send) depth 40
