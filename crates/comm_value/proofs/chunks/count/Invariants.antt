use Rattle.std.proofs.Common.{◌≡◌, take, length}
use Rattle.comm_value.specs.View.{flat}
use Rattle.comm_value.proofs.chunks.count.Given as goal

abbrev pub invariant-loop-chunk : goal.invariant-loop-chunk
invariant-loop-chunk l = l.total ≡ length (flat (take l.chunk-index l.chunks))
