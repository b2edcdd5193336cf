use Rattle.comm_versions.proofs.Listed.{chunk_listed}
use Rattle.comm_versions.proofs.comm_table.list_chunks.Goals as goal

pub loop-chunk-preserved : goal.loop-chunk-preserved
loop-chunk-preserved c =
    chunk_listed _ c.args.chunks.now c.loop-chunk.chunk-index c.chunk-item.result c.deref.result.now c.as_slice.result.now c.args.all.now.items c.loop-chunk.all.items c.list_all.new.all.items c.loop-chunk-test.true
    c.chunk-item.is c.deref.ensures c.as_slice.ensures.value c.loop-chunk.invariant c.in_ok-list_all.ensures
