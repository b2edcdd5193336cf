use Rattle.std.proofs.Common.{◌++◌, refl, sym, ap, ◌∙◌, arith}
use Rattle.comm_value.specs.Places.{member_buffers}
use Rattle.comm_value.specs.View.{members_of}
use Rattle.comm_value.proofs.Flat.{opened, next_is, closed, none_left}
use Rattle.comm_value.proofs.Smaller.{item_smaller, value_smaller}
use Rattle.comm_value.proofs.StepLemmas.{buffers_step, ended}
use Rattle.comm_value.proofs.separating.+buffers.Goals as goal

pub buffers_in_dict-buffers_in-requires : goal.buffers_in_dict-buffers_in-requires
buffers_in_dict-buffers_in-requires t c = (
  omega (
    arith,
    value_smaller _ c.loop-chunk.chunk-index c.chunk-item.result c.deref.result.now _ c.loop-member.member-index c.member-item.result _ c.loop-chunk-test.true c.chunk-item.is c.deref.ensures c.as_slice-member-items.ensures
        c.loop-member-test.true c.member-item.is c.chunks-chunk-items.ensures.shown,
    c.decreases,
  ),
  tt,
)

pub buffers_in_dict-loop-member-init : goal.buffers_in_dict-loop-member-init
buffers_in_dict-loop-member-init t c =
    ap (λ l. c.loop-chunk.found.items ++ member_buffers (members_of l)) (sym (opened _ c.loop-chunk.chunk-index c.chunk-item.result c.deref.result.now _ c.loop-chunk-test.true c.chunk-item.is c.deref.ensures c.as_slice-member-items.ensures)) ∙ c.loop-chunk.invariant

pub buffers_in_dict-loop-member-preserved : goal.buffers_in_dict-loop-member-preserved
buffers_in_dict-loop-member-preserved t c =
    buffers_step _ c.member-item.result _ c.loop-member.found.items _ _ (next_is _ c.loop-member.member-index c.member-item.result _ c.loop-member-test.true c.member-item.is) c.in_ok-buffers_in.ensures c.loop-member.invariant

pub buffers_in_dict-loop-chunk-preserved : goal.buffers_in_dict-loop-chunk-preserved
buffers_in_dict-loop-chunk-preserved t c = ap (λ l. c.loop-member.found.items ++ member_buffers (members_of l)) (sym (closed _ c.loop-member.member-index _ c.loop-member-test.false)) ∙ c.loop-member.invariant

pub buffers_in_dict-returns : goal.buffers_in_dict-returns
buffers_in_dict-returns t c = ended _ _ (none_left _ c.loop-chunk.chunk-index c.loop-chunk-test.false) (λ l. member_buffers (members_of l)) refl c.loop-chunk.invariant

pub buffers_in_list-buffers_in-requires : goal.buffers_in_list-buffers_in-requires
buffers_in_list-buffers_in-requires t c = (omega (arith, item_smaller _ c.loop-value.value-index c.value-item.result _ c.loop-value-test.true c.value-item.is c.as_slice-value-items.ensures, c.decreases), tt)
