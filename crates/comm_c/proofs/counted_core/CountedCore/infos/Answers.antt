use denote.Param.Send.{sendable}
use Rattle.comm_c.proofs.Crossing.{builtin_target_send}
use Rattle.comm_c.proofs.counted_core.CountedCore.infos.Goals as goal

pub listing-requires-send-T : goal.listing-requires-send-T
listing-requires-send-T c κs = search (sendable, builtin_target_send) depth 40
