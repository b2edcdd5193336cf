use Rattle.comm_c.proofs.Legal.{calls}
use Rattle.comm_c.proofs.laws.calls_make_legal_histories.Goals as goal

pub returns : goal.returns
returns c = calls c.legal_histories_grow.ensures c.replays_grow.ensures
