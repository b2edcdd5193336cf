use denote.Param.Send.{sendable}
use Rattle.comm_c.proofs.Crossing.{builtin_target_send}
use Rattle.comm_c.proofs.desk.Desk.message.Goals as goal

pub core-requires-send-T : goal.core-requires-send-T
core-requires-send-T c κs = search (sendable, builtin_target_send) depth 40
