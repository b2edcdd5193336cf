use Rattle.comm_outbox.proofs.Carrying.{gets}
use Rattle.comm_outbox.proofs.publisher.Publisher.take.Goals as goal

pub pop_as-requires-clause-rule : goal.pop_as-requires-clause-rule
pop_as-requires-clause-rule g c = (gets _ _ c.self.invariant.1, λ items views h at. tt)
