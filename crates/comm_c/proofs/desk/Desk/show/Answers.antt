use denote.Param.Send.{sendable}
use Rattle.comm_c.proofs.Crossing.{builtin_target_send}
use Rattle.comm_c.proofs.desk.Desk.show.Goals as goal

pub show_waiting-requires-send-T : goal.show_waiting-requires-send-T
show_waiting-requires-send-T c κs = search (sendable, builtin_target_send) depth 40
