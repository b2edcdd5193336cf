use Rattle.std.proofs.Common.{◌≡◌, take}
use Rattle.comm_versions.specs.Chunks.{comms_in, AllChunksFilled}
use Rattle.comm_versions.proofs.chunks.share_chunks.Given as goal

abbrev pub invariant-loop-chunk : goal.invariant-loop-chunk
invariant-loop-chunk l = (comms_in l.all.items ≡ comms_in (take l.chunk-index l.chunks)) × AllChunksFilled l.all.items
