use denote.Param.Send.{sendable}
use Rattle.comm_c.proofs.Crossing.{builtin_target_send}
use Rattle.comm_c.proofs.playing.catch_up.Goals as goal

pub front-requires-send-T : goal.front-requires-send-T
front-requires-send-T c κs = search (sendable, builtin_target_send) depth 40

pub catch_up-requires-send-T : goal.catch_up-requires-send-T
catch_up-requires-send-T c κs = search (sendable, builtin_target_send) depth 40
