use denote.Param.Send.{sendable}
use Rattle.comm_c.proofs.Crossing.{builtin_target_send}
use Rattle.comm_c.proofs.playing.register.Goals as goal

pub register-requires-send-T : goal.register-requires-send-T
register-requires-send-T c κs = search (sendable, builtin_target_send) depth 40
