use denote.Param.Send.{sendable}
use Rattle.comm_c.proofs.Crossing.{builtin_target_send}
use Rattle.comm_c.proofs.executing.closes_of.Goals as goal

pub has_comm-requires-send-T : goal.has_comm-requires-send-T
has_comm-requires-send-T c κs = search (sendable, builtin_target_send) depth 40
