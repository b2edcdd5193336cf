use denote.Param.Send.{sendable}
use Rattle.comm_c.proofs.Crossing.{builtin_target_send}
use Rattle.comm_c.proofs.desk.Desk.front.Goals as goal

pub front-requires-send-T : goal.front-requires-send-T
front-requires-send-T c κs = search (sendable, builtin_target_send) depth 40
