use Rattle.comm_core.proofs.Consistent.{replay_consistent}
use Rattle.comm_core.proofs.laws.replays_are_consistent.Goals as goal

pub returns : goal.returns
returns c = replay_consistent
