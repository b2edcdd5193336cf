use Rattle.comm_script.proofs.Streaming.{writes_rest, writes_kept}
use Rattle.comm_script.proofs.stream.write_whole.Goals as goal
use Rattle.comm_script.proofs.stream.write_whole.Goals.{in-Ok, in-Err+else-ne}

pub loop-preserved : goal.loop-preserved
loop-preserved g c =
    elim c.match-write.branch [
      | in-Ok w ↦ rw w.rest-is (
          writes_rest (g.W.Write.contents c.args.writer.now) (g.W.Write.contents c.loop.writer) (g.W.Write.contents c.write.new.self) c.args.text.now c.loop.rest.now w.in-Ok.n c.loop.invariant w.in-Ok.ensures.bytes)
      | in-Err+else-ne w ↦ rw w.rest-is (
          writes_kept (g.W.Write.contents c.args.writer.now) (g.W.Write.contents c.loop.writer) (g.W.Write.contents c.write.new.self) c.args.text.now c.loop.rest.now c.loop.invariant w.in-Err.ensures.bytes)
    ]
