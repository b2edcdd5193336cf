use Rattle.std.proofs.Common.{◌≡◌, drop}
use Rattle.comm_core.specs.Row.{without_all}
use Rattle.comm_versions.specs.Chunks.{comms_in, AllChunksFilled, IsInOrder}
use Rattle.comm_versions.proofs.changing.take_all.Given as goal

abbrev pub invariant-loop-id : goal.invariant-loop-id
invariant-loop-id l =
    (without_all (drop l.id-index l.ids) (comms_in l.chunks.items) ≡ without_all l.ids (comms_in l.initial.chunks.items)) × AllChunksFilled l.chunks.items × IsInOrder (comms_in l.chunks.items)
