use Rattle.comm_core.proofs.Legal.{no_end_yet}
use Rattle.comm_core.proofs.laws.an_end_comes_last.Goals as goal

pub returns : goal.returns
returns c = no_end_yet
