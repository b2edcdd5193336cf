use Rattle.std.proofs.Common.{sym, subst, ◌∙◌}
use Rattle.comm_versions.specs.Chunks.{IsInOrder, comms_in}
use Rattle.comm_versions.proofs.Ids.{without_in_order}
use Rattle.comm_versions.proofs.Around.{one_out}
use Rattle.comm_versions.proofs.changing.take_all.Goals as goal

pub loop-id-preserved : goal.loop-id-preserved
loop-id-preserved c =
    let es = comms_in c.loop-id.chunks.items in (
      one_out c.args.ids.now c.loop-id.id-index c.id-item.result es _ c.loop-id-test.true c.id-item.is c.in_ok-take_out.ensures.out ∙ c.loop-id.invariant.0,
      c.in_ok-take_out.ensures.filled,
      subst IsInOrder (sym c.in_ok-take_out.ensures.out) (without_in_order es c.id-item.result c.loop-id.invariant.2),
    )
