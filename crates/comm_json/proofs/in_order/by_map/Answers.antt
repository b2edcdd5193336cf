use Rattle.std.proofs.Common.{refl}
use Rattle.comm_json.proofs.MemberOrder.{put_next}
use Rattle.comm_json.proofs.in_order.by_map.Goals as goal

pub loop-member-preserved : goal.loop-member-preserved
loop-member-preserved c =
    put_next _ c.loop-member.member-index c.member-item.result c.loop-member.map.entries _ _ _ c.loop-member-test.true c.member-item.is c.loop-member.invariant c.in_ok-insert.ensures.entries refl refl
