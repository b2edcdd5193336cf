use denote.Param.Send.{sendable}
use Rattle.comm_c.proofs.Crossing.{builtin_target_send}
use Rattle.comm_c.proofs.playing.change.Goals as goal

pub core-requires-send-T : goal.core-requires-send-T
core-requires-send-T c κs = search (sendable, builtin_target_send) depth 40

pub change-requires-send-T : goal.change-requires-send-T
change-requires-send-T c κs = search (sendable, builtin_target_send) depth 40
