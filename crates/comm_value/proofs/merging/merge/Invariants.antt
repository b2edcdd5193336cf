use Rattle.std.proofs.Common.{◌≡◌, ◌+◌, ◌++◌, drop, length, true}
use Rattle.comm_value.specs.View.{members_of, flat, AllFilled}
use Rattle.comm_value.specs.Order.{members_ordered}
use Rattle.comm_value.specs.Merge.{merged}
use Rattle.comm_value.proofs.merging.merge.Given as goal

abbrev pub invariant-loop-chunk : goal.invariant-loop-chunk
invariant-loop-chunk l =
    (merged (members_of (flat l.chunks.items)) (members_of (flat (drop l.chunk-index l.chunk-items))) ≡ merged l.fn.state l.fn.update)
    × (members_ordered (members_of (flat l.chunks.items)) ≡ true) × AllFilled l.chunks.items × (members_ordered (members_of (flat (drop l.chunk-index l.chunk-items))) ≡ true)
    × (l.as_many ≡ true → length (flat l.chunks.items) ≡ l.len)

abbrev pub invariant-loop-member : goal.invariant-loop-member
invariant-loop-member l =
    (merged (members_of (flat l.chunks.items)) (members_of (drop l.member-index l.member-items ++ flat (drop (l.chunk-index + 1) l.chunk-items))) ≡ merged l.fn.state l.fn.update)
    × (members_ordered (members_of (flat l.chunks.items)) ≡ true) × AllFilled l.chunks.items × (members_ordered (members_of (drop l.member-index l.member-items ++ flat (drop (l.chunk-index + 1) l.chunk-items))) ≡ true)
