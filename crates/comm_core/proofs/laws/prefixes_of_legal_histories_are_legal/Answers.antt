use Rattle.comm_core.proofs.Legal.{prefix_legal}
use Rattle.comm_core.proofs.laws.prefixes_of_legal_histories_are_legal.Goals as goal

pub returns : goal.returns
returns c = prefix_legal
