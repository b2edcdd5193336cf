use Rattle.comm_core.proofs.Legal.{more_legal}
use Rattle.comm_core.proofs.laws.legal_histories_grow.Goals as goal

pub returns : goal.returns
returns c = more_legal
