use Rattle.std.proofs.Common.{sym, subst}
use Rattle.comm_versions.specs.Chunks.{AllChunksFilled, IsInOrder, comms_in}
use Rattle.comm_versions.proofs.Around.{nothing}
use Rattle.comm_versions.proofs.comm_table.CommTable.new.Goals as goal

pub invariant_of-result : goal.invariant_of-result
invariant_of-result c = subst (λ ps. AllChunksFilled ps × IsInOrder (comms_in ps)) (sym c.new.ensures.items) nothing
