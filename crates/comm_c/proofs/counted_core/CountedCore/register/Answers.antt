use denote.Param.Send.{sendable}
use Rattle.comm_c.proofs.Crossing.{builtin_target_send}
use Rattle.comm_c.proofs.counted_core.CountedCore.register.Goals as goal

pub begin_register-requires-send-T : goal.begin_register-requires-send-T
begin_register-requires-send-T c κs = search (sendable, builtin_target_send) depth 40

pub into_parts-call-requires-send-T : goal.into_parts-call-requires-send-T
into_parts-call-requires-send-T c κs = search (sendable, builtin_target_send) depth 40
