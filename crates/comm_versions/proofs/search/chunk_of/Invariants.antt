use Rattle.std.proofs.Common.{◌<◌, ◌≤◌, ◌-◌, length, take, drop}
use Rattle.comm_versions.specs.Chunks.{AllIdsBelow, IsBelowFirst, comms_in}
use Rattle.comm_versions.proofs.search.chunk_of.Given as goal

abbrev pub invariant-loop-low : goal.invariant-loop-low
invariant-loop-low l = (l.low < l.high) × (l.high ≤ length l.chunks) × AllIdsBelow l.id (comms_in (take l.low l.chunks)) × IsBelowFirst l.id (comms_in (drop l.high l.chunks))

abbrev pub decreases-loop-low : goal.decreases-loop-low
decreases-loop-low l = l.high - l.low
