use Rattle.std.proofs.Common.{sym, subst}
use Rattle.comm_versions.specs.Chunks.{AllChunksFilled, IsInOrder, comms_in}
use Rattle.comm_versions.proofs.Around.{nothing}
use Rattle.comm_versions.proofs.Ids.{with_in_order}
use Rattle.comm_versions.proofs.comm_table.CommTable.change.Goals as goal

pub invariant_of-self : goal.invariant_of-self
invariant_of-self c =
    (c.in-Ok.ensures.filled, subst IsInOrder (sym c.in-Ok.ensures.comms_in) (with_in_order c.args.row.now (comms_in c.self.inside.chunks.items) c.self.invariant.1))

pub invariant_of-self-in-Err : goal.invariant_of-self-in-Err
invariant_of-self-in-Err c = subst (λ ps. AllChunksFilled ps × IsInOrder (comms_in ps)) (sym c.new.ensures.items) nothing
