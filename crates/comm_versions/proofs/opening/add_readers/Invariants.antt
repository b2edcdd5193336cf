use Rattle.std.proofs.Common.{◌≡◌, drop, true, length}
use Rattle.std.specs.Prelude.{All}
use Rattle.left_right.specs.Sides.{view}
use Rattle.comm_versions.specs.Known.{known, origin_of}
use Rattle.comm_versions.proofs.opening.add_readers.Given as goal

abbrev pub invariant-loop-i : goal.invariant-loop-i
invariant-loop-i g l =
    (length l.readers.items ≡ l.i) × All (λ r. r ≡ l.front) l.readers.items × (view l.snapshots.desk.place ≡ (true, known (origin_of g.M.History.book g.M.History.limits) l.front))
    × (l.snapshots.desk.shown.value ≡ l.fn.snapshots.desk.shown.value) × (drop l.snapshots.behind l.snapshots.log.items ≡ drop l.fn.snapshots.behind l.fn.snapshots.log.items)
