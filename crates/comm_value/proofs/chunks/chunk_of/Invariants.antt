use Rattle.std.proofs.Common.{◌<◌, ◌≤◌, ◌-◌, length, take, drop}
use Rattle.comm_value.specs.Search.{AllBelow, IsAbsent}
use Rattle.comm_value.specs.View.{flat}
use Rattle.comm_value.proofs.chunks.chunk_of.Given as goal

abbrev pub invariant-loop-low : goal.invariant-loop-low
invariant-loop-low l = (l.low < l.high) × (l.high ≤ length l.chunks) × AllBelow l.key (flat (take l.low l.chunks)) × IsAbsent l.key (flat (drop l.high l.chunks))

abbrev pub decreases-loop-low : goal.decreases-loop-low
decreases-loop-low l = l.high - l.low
