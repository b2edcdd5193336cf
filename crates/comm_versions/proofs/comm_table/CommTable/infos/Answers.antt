use Rattle.std.proofs.Common.{List, sym, subst}
use Rattle.comm_versions.specs.Chunks.{IsInOrder, CommChunk, comms_in}
use Rattle.comm_versions.proofs.Listed.{listed_in_order}
use Rattle.comm_versions.proofs.comm_table.CommTable.infos.Goals as goal

pub new-requires : goal.new-requires
new-requires c =
    listed_in_order _ c.new-all.result.items c.list_chunks.new.all.items (comms_in c.as_slice.result.now) c.new-all.ensures.items c.in_ok-list_chunks.ensures
    (subst (λ (ps : List CommChunk). IsInOrder (comms_in ps)) (sym c.as_slice.ensures.value) c.self.invariant.1)
