use Rattle.std.proofs.Common.{Ok, sym, subst, refl, ap}
use Rattle.comm_json.specs.Behind.{members_of, AreInOrder}
use Rattle.comm_json.proofs.MemberOrder.{none_in_order, put_next, order_kept}
use Rattle.comm_json.proofs.in_order.in_order.Goals as goal

pub loop-member-init : goal.loop-member-init
loop-member-init c = (ap members_of c.in_ok-all.ensures.items, none_in_order _ c.in_ok-all.ensures.items)

pub loop-member-preserved : goal.loop-member-preserved
loop-member-preserved c =
    let put = c.in_ok-insert_near_end.ensures (ap Ok c.if-not-branch.false) in (
      put_next _ c.loop-member.member-index c.member-item.result c.loop-member.all.items _ _ _ c.loop-member-test.true c.member-item.is c.loop-member.invariant.0 put refl refl,
      subst AreInOrder (sym put) (order_kept _ _ _ c.loop-member.invariant.1),
    )
