use denote.Param.Send.{sendable}
use Rattle.comm_c.proofs.Crossing.{builtin_target_send}
use Rattle.comm_c.proofs.counted_core.CountedCore.change.Goals as goal

pub prepare-requires-send-T : goal.prepare-requires-send-T
prepare-requires-send-T c κs = search (sendable, builtin_target_send) depth 40
