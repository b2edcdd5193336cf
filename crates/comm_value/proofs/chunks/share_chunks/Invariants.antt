use Rattle.std.proofs.Common.{◌≡◌, ◌≤◌, take, length}
use Rattle.std.specs.Prelude.{vec_len, vec_capacity}
use Rattle.comm_value.specs.View.{flat, AllFilled}
use Rattle.comm_value.proofs.chunks.share_chunks.Given as goal

abbrev pub invariant-loop-chunk : goal.invariant-loop-chunk
invariant-loop-chunk l = (flat l.all.items ≡ flat (take l.chunk-index l.chunks)) × AllFilled l.all.items × (vec_len l.all ≡ l.chunk-index) × (length l.chunks ≤ vec_capacity l.all)
