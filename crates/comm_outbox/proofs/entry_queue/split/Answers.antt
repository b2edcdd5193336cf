use Rattle.comm_outbox.proofs.Carrying.{forks}
use Rattle.comm_outbox.proofs.entry_queue.split.Goals as goal

pub another-requires-clause-rule : goal.another-requires-clause-rule
another-requires-clause-rule g c = forks g.L.Limited.bounds _ _ c.requires.first
