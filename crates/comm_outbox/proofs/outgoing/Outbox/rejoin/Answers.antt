use Rattle.comm_outbox.proofs.Carrying.{merges}
use Rattle.comm_outbox.proofs.outgoing.Outbox.rejoin.Goals as goal

pub absorb-requires-clause-rule : goal.absorb-requires-clause-rule
absorb-requires-clause-rule c = merges _ _ _ _ c.self.invariant.1 c.publisher.invariant.1
