use Rattle.std.proofs.Common.{◌≡◌, drop}
use Rattle.comm_versions.proofs.showing.enqueue.Given as goal

abbrev pub invariant-loop : goal.invariant-loop
invariant-loop g l =
    (goal.iterator-loop g).can_next l.iterator' × (goal.iterator-loop g).is_finite l.iterator' × (l.version ≡ l.fn.version) × (l.snapshots.desk.shown.value ≡ l.fn.snapshots.desk.shown.value)
    × (drop l.snapshots.behind l.snapshots.log.items ≡ drop l.fn.snapshots.behind l.fn.snapshots.log.items)
