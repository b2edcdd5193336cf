use Rattle.comm_core.proofs.Legal.{replay_more}
use Rattle.comm_core.proofs.laws.replays_grow.Goals as goal

pub returns : goal.returns
returns c = replay_more
