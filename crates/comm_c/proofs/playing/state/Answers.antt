use denote.Param.Send.{sendable}
use Rattle.comm_c.proofs.Crossing.{builtin_target_send}
use Rattle.comm_c.proofs.playing.state.Goals as goal

pub core-requires-send-T : goal.core-requires-send-T
core-requires-send-T c κs = search (sendable, builtin_target_send) depth 40

pub state-requires-send-T : goal.state-requires-send-T
state-requires-send-T c κs = search (sendable, builtin_target_send) depth 40
