use denote.Param.Send.{sendable}
use Rattle.comm_c.proofs.Crossing.{builtin_target_send}
use Rattle.comm_c.proofs.client.Client.open.Goals as goal

pub new-requires-send-T : goal.new-requires-send-T
new-requires-send-T c κs = search (sendable, builtin_target_send) depth 40
