use Rattle.std.proofs.Common.{sym, ap, ◌∙◌, arith}
use Rattle.comm_value.specs.Places.{members_have_bytes}
use Rattle.comm_value.specs.View.{members_of}
use Rattle.comm_value.proofs.BytesLemmas.{member_has, member_has_not}
use Rattle.comm_value.proofs.Flat.{opened, next_is, closed, none_left}
use Rattle.comm_value.proofs.Smaller.{item_smaller, value_smaller}
use Rattle.comm_value.proofs.has_bytes.+has_bytes.Goals as goal

pub a_member_holds_bytes-holds_bytes-requires : goal.a_member_holds_bytes-holds_bytes-requires
a_member_holds_bytes-holds_bytes-requires t c = (
  omega (
    arith,
    value_smaller _ c.loop-chunk.chunk-index c.chunk-item.result c.deref.result.now _ c.loop-member.member-index c.member-item.result _ c.loop-chunk-test.true c.chunk-item.is c.deref.ensures c.as_slice-member-items.ensures
        c.loop-member-test.true c.member-item.is c.chunks-chunk-items.ensures.shown,
    c.decreases,
  ),
  tt,
)

pub a_member_holds_bytes-loop-member-init : goal.a_member_holds_bytes-loop-member-init
a_member_holds_bytes-loop-member-init t c =
    ap (λ l. members_have_bytes (members_of l)) (sym (opened _ c.loop-chunk.chunk-index c.chunk-item.result c.deref.result.now _ c.loop-chunk-test.true c.chunk-item.is c.deref.ensures c.as_slice-member-items.ensures)) ∙ c.loop-chunk.invariant

pub a_member_holds_bytes-loop-member-preserved : goal.a_member_holds_bytes-loop-member-preserved
a_member_holds_bytes-loop-member-preserved t c =
    member_has_not _ c.member-item.result _ _ (next_is _ c.loop-member.member-index c.member-item.result _ c.loop-member-test.true c.member-item.is) c.loop-member.invariant c.if-holds_bytes.ensures

pub a_member_holds_bytes-returns-then-holds_bytes : goal.a_member_holds_bytes-returns-then-holds_bytes
a_member_holds_bytes-returns-then-holds_bytes t c =
    member_has _ c.member-item.result _ _ (next_is _ c.loop-member.member-index c.member-item.result _ c.loop-member-test.true c.member-item.is) c.loop-member.invariant c.if-holds_bytes.ensures

pub a_member_holds_bytes-loop-chunk-preserved : goal.a_member_holds_bytes-loop-chunk-preserved
a_member_holds_bytes-loop-chunk-preserved t c = ap (λ l. members_have_bytes (members_of l)) (sym (closed _ c.loop-member.member-index _ c.loop-member-test.false)) ∙ c.loop-member.invariant

pub a_member_holds_bytes-returns : goal.a_member_holds_bytes-returns
a_member_holds_bytes-returns t c = ap (λ l. members_have_bytes (members_of l)) (sym (none_left _ c.loop-chunk.chunk-index c.loop-chunk-test.false)) ∙ c.loop-chunk.invariant

pub an_item_holds_bytes-holds_bytes-requires : goal.an_item_holds_bytes-holds_bytes-requires
an_item_holds_bytes-holds_bytes-requires t c = (omega (arith, item_smaller _ c.loop-item.item-index c.item-item.result _ c.loop-item-test.true c.item-item.is c.as_slice-item-items.ensures, c.decreases), tt)
