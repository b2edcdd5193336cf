use denote.Param.Send.{sendable}
use Rattle.comm_c.proofs.Crossing.{builtin_target_send}
use Rattle.comm_c.proofs.opaque.is_opaque_target.Goals as goal

pub kind_of-requires-send-T : goal.kind_of-requires-send-T
kind_of-requires-send-T c κs = search (sendable, builtin_target_send) depth 40
