use Rattle.comm_value.proofs.PathsLemmas.{read_back}
use Rattle.comm_value.proofs.laws.paths_are_read_back.Goals as goal

pub returns : goal.returns
returns c = read_back 0
