use Rattle.comm_outbox.proofs.Carrying.{drains, divides}
use Rattle.comm_outbox.proofs.outgoing.drain.Goals as goal

pub pop_as-requires-clause-rule : goal.pop_as-requires-clause-rule
pop_as-requires-clause-rule g c = let i = c.loop.invariant in (drains _ _ i.puts i.takes, divides _ _ i.puts i.takes)
