use denote.Param.Send.{sendable}
use Rattle.comm_c.proofs.Crossing.{builtin_target_send}
use Rattle.comm_c.proofs.opaque.is_opaque_comm.Goals as goal

pub target_of-requires-send-T : goal.target_of-requires-send-T
target_of-requires-send-T c κs = search (sendable, builtin_target_send) depth 40
