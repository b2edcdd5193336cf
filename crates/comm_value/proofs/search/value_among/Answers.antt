use Rattle.std.proofs.Common.{refl}
use Rattle.comm_value.proofs.Among.{passed_at, met_at}
use Rattle.comm_value.proofs.search.value_among.Goals as goal

pub returns-then-is : goal.returns-then-is
returns-then-is c = met_at c.args.key.now c.args.members.now c.loop-member.member-index c.member-item.result _ c.loop-member-test.true c.member-item.is c.if-is.ensures refl c.loop-member.invariant

pub loop-member-preserved : goal.loop-member-preserved
loop-member-preserved c = passed_at c.args.key.now c.args.members.now c.loop-member.member-index c.member-item.result _ c.loop-member-test.true c.member-item.is c.if-is.ensures refl c.loop-member.invariant
