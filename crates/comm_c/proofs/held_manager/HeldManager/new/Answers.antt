use denote.Param.Send.{sendable}
use Rattle.comm_c.proofs.Crossing.{builtin_target_send}
use Rattle.comm_c.proofs.held_manager.HeldManager.new.Goals as goal

pub with_comms_limit-requires-send-T : goal.with_comms_limit-requires-send-T
with_comms_limit-requires-send-T c κs = search (sendable, builtin_target_send) depth 40
