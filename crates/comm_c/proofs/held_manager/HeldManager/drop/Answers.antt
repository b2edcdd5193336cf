use denote.Param.Send.{sendable}
use Rattle.comm_c.proofs.Crossing.{builtin_target_send}
use Rattle.comm_c.proofs.held_manager.HeldManager.drop.Goals as goal

pub stop_all-requires-send-T : goal.stop_all-requires-send-T
stop_all-requires-send-T c κs = search (sendable, builtin_target_send) depth 40
