use Rattle.std.proofs.Common.{length, ap, arith}
use Rattle.comm_value.proofs.Flat.{counted}
use Rattle.comm_value.proofs.chunks.count.Goals as goal

pub loop-chunk-preserved : goal.loop-chunk-preserved
loop-chunk-preserved c = omega (arith, counted _ c.loop-chunk.chunk-index c.chunk-item.result c.deref.result.now c.loop-chunk-test.true c.chunk-item.is c.deref.ensures, c.loop-chunk.invariant, ap length c.as_slice.ensures, c.in-Some.ensures.1)
