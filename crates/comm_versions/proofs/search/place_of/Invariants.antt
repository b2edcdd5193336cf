use Rattle.std.proofs.Common.{◌≤◌, length, take, drop, ◌-◌}
use Rattle.comm_versions.specs.Chunks.{AllIdsBelow, IsBelowFirst}
use Rattle.comm_versions.proofs.search.place_of.Given as goal

abbrev pub invariant-loop-low : goal.invariant-loop-low
invariant-loop-low l = (l.low ≤ l.high) × (l.high ≤ length l.comms) × AllIdsBelow l.id (take l.low l.comms) × IsBelowFirst l.id (drop l.high l.comms)

abbrev pub decreases-loop-low : goal.decreases-loop-low
decreases-loop-low l = l.high - l.low
