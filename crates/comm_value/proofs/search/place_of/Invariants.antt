use Rattle.std.proofs.Common.{◌≤◌, length, take, drop, ◌-◌}
use Rattle.comm_value.specs.Search.{AllBelow, IsAbsent}
use Rattle.comm_value.proofs.search.place_of.Given as goal

abbrev pub invariant-loop-low : goal.invariant-loop-low
invariant-loop-low l = (l.low ≤ l.high) × (l.high ≤ length l.members) × AllBelow l.key (take l.low l.members) × IsAbsent l.key (drop l.high l.members)

abbrev pub decreases-loop-low : goal.decreases-loop-low
decreases-loop-low l = l.high - l.low
