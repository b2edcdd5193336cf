use Rattle.std.proofs.Common.{refl, ap, arith}
use Rattle.std.specs.Arc.{arc_value}
use Rattle.comm_value.specs.View.{grouped}
use Rattle.comm_value.proofs.Flat.{shared_more, filled_push, filled_items}
use Rattle.comm_value.proofs.chunks.share_chunks.Goals as goal

pub loop-chunk-preserved : goal.loop-chunk-preserved
loop-chunk-preserved c = (
  shared_more c.args.chunks.now c.loop-chunk.all.items _ c.loop-chunk.chunk-index c.chunk-item.result c.in_ok-try_clone.field-0 c.loop-chunk-test.true c.chunk-item.is c.in_ok-try_clone.ensures c.push_reserved.ensures.items c.loop-chunk.invariant.0,
  filled_push c.loop-chunk.all.items _ c.in_ok-try_clone.field-0 _ c.push_reserved.ensures.items (ap grouped c.in_ok-try_clone.ensures)
      (filled_items c.args.chunks.now c.loop-chunk.chunk-index c.chunk-item.result (arc_value c.chunk-item.result) _ c.loop-chunk-test.true c.chunk-item.is refl refl c.requires) c.loop-chunk.invariant.1,
  omega (arith, c.push_reserved.ensures.len, c.loop-chunk.invariant.2),
  omega (arith, c.push_reserved.ensures.capacity, c.loop-chunk.invariant.3),
)
