use Rattle.comm_core.proofs.Legal.{nothing_after}
use Rattle.comm_core.proofs.laws.nothing_follows_an_end.Goals as goal

pub returns : goal.returns
returns c = nothing_after
