use Rattle.std.proofs.Common.{◌≡◌}
use Rattle.crossbeam_queue.specs.Passes.{view, IsSamePass}
use Rattle.comm_outbox.proofs.outgoing.put_on.Given as goal

abbrev pub invariant-loop : goal.invariant-loop
invariant-loop g l = (goal.iterator-loop g).can_next l.iterator' × (goal.iterator-loop g).is_finite l.iterator' × (l.entry ≡ l.fn.entry) × IsSamePass l.fn.pass l.pass × (view l.pass ≡ view l.fn.pass)
