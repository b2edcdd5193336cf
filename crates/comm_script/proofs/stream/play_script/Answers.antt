use Rattle.std.proofs.Common.{◌<◌, ◌≤◌, length, arith}
use Rattle.comm_script.proofs.Streaming.{if_some, streams_next, streams_kept, streams_ended, begins_streams, begins_chunk, begins_last, stops_streams, pauses_streams, short_chunk, loses_more, loses_kept, loses_all, grows_more, grows_begun}
use Rattle.comm_script.proofs.stream.play_script.Goals as goal
use Rattle.comm_script.proofs.stream.play_script.Goals.{in-Ok+in_ok-play_chunk-in-Ok+in_ok-write_all_and_flush-in-Ok, in-Err+else-ne}

pub loop-preserved : goal.loop-preserved
loop-preserved g c =
    elim c.match-read.branch [
      | in-Ok+in_ok-play_chunk-in-Ok+in_ok-write_all_and_flush-in-Ok w ↦ rw (w.backend-is, w.number-is, w.pending-is, w.writer-is, w.text-is) (record {
        room = omega (arith, w.in_ok-play_chunk-in-Ok.ensures.few, c.loop.invariant.room);
        within = w.in_ok-play_chunk-in-Ok.ensures.within;
        kept = w.in_ok-play_chunk-in-Ok.ensures.kept;
        one_line = w.in_ok-play_chunk-in-Ok.ensures.one_line;
        empty = w.in_ok-write_all_and_flush-in-Ok.ensures.empty;
        left = loses_more _ _ _ _ c.loop.invariant.left w.in-Ok.ensures.bytes.0;
        grown = grows_more _ _ _ _ c.loop.invariant.grown w.in_ok-write_all_and_flush-in-Ok.ensures.sent;
        streams = λ limits stock stands. if_some _ _ _
            (λ input h. streams_next c.args.numbers g.B.Backend.stands limits stock input _ _ _ _ _ _ _ _ _ _ _ _ c.loop.text.items w.play_chunk.new.text.items h w.in-Ok.ensures.bytes.0 c.loop.invariant.empty w.in_ok-play_chunk-in-Ok.ensures.says
            w.in_ok-write_all_and_flush-in-Ok.ensures.sent) (c.loop.invariant.streams limits stock stands);
      })
      | in-Err+else-ne w ↦ rw (w.backend-is, w.number-is, w.pending-is, w.writer-is, w.text-is) (record {
        room = omega (arith, c.loop.invariant.room);
        within = c.loop.invariant.within;
        kept = c.loop.invariant.kept;
        one_line = c.loop.invariant.one_line;
        empty = c.loop.invariant.empty;
        left = loses_kept _ _ _ c.loop.invariant.left w.in-Err.ensures.bytes;
        grown = c.loop.invariant.grown;
        streams = λ limits stock stands. if_some (g.R.Read.remaining c.args.reader.now) _ _
            (λ input h. streams_kept c.args.numbers g.B.Backend.stands limits stock input (g.W.Write.contents c.args.writer.now) (g.W.Write.contents c.loop.writer) (g.R.Read.remaining c.loop.reader) (g.R.Read.remaining c.read.new.self)
            c.loop.backend c.loop.number c.loop.pending.items h w.in-Err.ensures.bytes) (c.loop.invariant.streams limits stock stands);
      })
    ]

pub returns-in-Ok-eq0-clause-played : goal.returns-in-Ok-eq0-clause-played
returns-in-Ok-eq0-clause-played g c =
    let some : 0 < length c.read.new.buf = omega arith in
    λ limits stock stands.
    if_some _ _ _
    (λ input h. streams_ended c.args.numbers g.B.Backend.stands limits stock input _ _ _ _ _ _ _ _ c.deref.result.now c.loop.text.items c.play_last.new.text.items c.in-Ok-eq0.field-0 c.read.new.buf h c.deref.ensures.value c.in-Ok-eq0.field-0-test c.in-Ok-eq0.ensures.bytes.0
    c.in-Ok-eq0.ensures.bytes.1 some c.loop.invariant.empty (c.in_ok-play_last-in-Ok-eq0.ensures.says limits stock) c.in_ok-write_all_and_flush-in-Ok-eq0.ensures.sent) (c.loop.invariant.streams limits stock stands)

pub returns-in-Ok-eq0-clause-whole : goal.returns-in-Ok-eq0-clause-whole
returns-in-Ok-eq0-clause-whole g c =
    let some : 0 < length c.read.new.buf = omega arith in
    loses_all _ _ _ c.in-Ok-eq0.field-0 c.read.new.buf c.loop.invariant.left c.in-Ok-eq0.ensures.bytes.0 c.in-Ok-eq0.ensures.bytes.1 c.in-Ok-eq0.field-0-test some

pub returns-in-Ok-eq0-clause-grown : goal.returns-in-Ok-eq0-clause-grown
returns-in-Ok-eq0-clause-grown g c = grows_more _ _ _ _ c.loop.invariant.grown c.in_ok-write_all_and_flush-in-Ok-eq0.ensures.sent

pub returns-in_err-write_all_and_flush-in-Ok-eq0-clause-grown : goal.returns-in_err-write_all_and_flush-in-Ok-eq0-clause-grown
returns-in_err-write_all_and_flush-in-Ok-eq0-clause-grown g c = grows_begun _ _ _ _ c.loop.invariant.grown c.in_err-write_all_and_flush-in-Ok-eq0.ensures.begun

pub returns-in_err-write_all_and_flush-in-Ok-clause-grown : goal.returns-in_err-write_all_and_flush-in-Ok-clause-grown
returns-in_err-write_all_and_flush-in-Ok-clause-grown g c = grows_begun _ _ _ _ c.loop.invariant.grown c.in_err-write_all_and_flush-in-Ok.ensures.begun

pub returns-in-Ok-eq0-clause-begun : goal.returns-in-Ok-eq0-clause-begun
returns-in-Ok-eq0-clause-begun g c =
    let some : 0 < length c.read.new.buf = omega arith in
    λ limits stock stands.
    if_some _ _ _
    (λ input h. begins_last c.args.numbers g.B.Backend.stands limits stock input _ _ _ _ _ _ _ _ c.deref.result.now c.loop.text.items c.play_last.new.text.items c.in-Ok-eq0.field-0 c.read.new.buf h c.deref.ensures.value c.in-Ok-eq0.field-0-test
    c.in-Ok-eq0.ensures.bytes.0 c.in-Ok-eq0.ensures.bytes.1 some c.loop.invariant.empty (c.in_ok-play_last-in-Ok-eq0.ensures.says limits stock) c.in_ok-write_all_and_flush-in-Ok-eq0.ensures.begun) (c.loop.invariant.streams limits stock stands)

-- a writer that failed took a part
pub returns-in_err-write_all_and_flush-in-Ok-eq0-clause-begun : goal.returns-in_err-write_all_and_flush-in-Ok-eq0-clause-begun
returns-in_err-write_all_and_flush-in-Ok-eq0-clause-begun g c =
    let some : 0 < length c.read.new.buf = omega arith in
    λ limits stock stands.
    if_some _ _ _
    (λ input h. begins_last c.args.numbers g.B.Backend.stands limits stock input _ _ _ _ _ _ _ _ c.deref.result.now c.loop.text.items c.play_last.new.text.items c.in-Ok-eq0.field-0 c.read.new.buf h c.deref.ensures.value c.in-Ok-eq0.field-0-test
    c.in-Ok-eq0.ensures.bytes.0 c.in-Ok-eq0.ensures.bytes.1 some c.loop.invariant.empty (c.in_ok-play_last-in-Ok-eq0.ensures.says limits stock) c.in_err-write_all_and_flush-in-Ok-eq0.ensures.begun) (c.loop.invariant.streams limits stock stands)

pub returns-in_err-write_all_and_flush-in-Ok-clause-begun : goal.returns-in_err-write_all_and_flush-in-Ok-clause-begun
returns-in_err-write_all_and_flush-in-Ok-clause-begun g c = λ limits stock stands.
    if_some _ _ _
    (λ input h. begins_chunk c.args.numbers g.B.Backend.stands limits stock input _ _ _ _ _ _ _ _ _ _ _ _ c.loop.text.items c.play_chunk.new.text.items h c.in-Ok.ensures.bytes.0 c.loop.invariant.empty c.in_ok-play_chunk-in-Ok.ensures.says
    c.in_err-write_all_and_flush-in-Ok.ensures.begun) (c.loop.invariant.streams limits stock stands)

-- nothing was written since the last piece
pub returns-in_err-play_last-in-Ok-eq0-clause-begun : goal.returns-in_err-play_last-in-Ok-eq0-clause-begun
returns-in_err-play_last-in-Ok-eq0-clause-begun g c = λ limits stock stands. if_some _ _ _ (λ input h. begins_streams c.args.numbers g.B.Backend.stands limits stock input _ _ _ _ _ _ h) (c.loop.invariant.streams limits stock stands)

pub returns-in_err-play_chunk-in-Ok-clause-begun : goal.returns-in_err-play_chunk-in-Ok-clause-begun
returns-in_err-play_chunk-in-Ok-clause-begun g c = λ limits stock stands. if_some _ _ _ (λ input h. begins_streams c.args.numbers g.B.Backend.stands limits stock input _ _ _ _ _ _ h) (c.loop.invariant.streams limits stock stands)

pub returns-then-ne-clause-begun : goal.returns-then-ne-clause-begun
returns-then-ne-clause-begun g c = λ limits stock stands. if_some _ _ _ (λ input h. begins_streams c.args.numbers g.B.Backend.stands limits stock input _ _ _ _ _ _ h) (c.loop.invariant.streams limits stock stands)

pub returns-clause-begun : goal.returns-clause-begun
returns-clause-begun g c = λ limits stock stands. if_some _ _ _ (λ input h. begins_streams c.args.numbers g.B.Backend.stands limits stock input _ _ _ _ _ _ h) (c.loop.invariant.streams limits stock stands)

pub returns-then-ne-clause-read : goal.returns-then-ne-clause-read
returns-then-ne-clause-read g c = λ is limits stock stands.
    if_some _ _ _
    (λ input h. stops_streams c.args.numbers g.B.Backend.stands limits stock input _ _ _ c.loop.backend c.loop.number c.loop.pending.items
    (streams_kept c.args.numbers g.B.Backend.stands limits stock input _ _ (g.R.Read.remaining c.loop.reader) (g.R.Read.remaining c.read.new.self) c.loop.backend c.loop.number c.loop.pending.items h c.in-Err.ensures.bytes) c.loop.invariant.one_line)
    (c.loop.invariant.streams limits stock stands)

pub returns-clause-read : goal.returns-clause-read
returns-clause-read g c = λ is limits stock stands.
    if_some _ _ _ (λ input h. stops_streams c.args.numbers g.B.Backend.stands limits stock input _ _ _ c.loop.backend c.loop.number c.loop.pending.items h c.loop.invariant.one_line) (c.loop.invariant.streams limits stock stands)

pub returns-in_err-play_last-in-Ok-eq0-clause-memory : goal.returns-in_err-play_last-in-Ok-eq0-clause-memory
returns-in_err-play_last-in-Ok-eq0-clause-memory g c =
    let few : length c.read.new.buf ≤ 16384 = omega arith in
    λ is limits stock stands.
    if_some _ _ _
    (λ input h. pauses_streams c.args.numbers g.B.Backend.stands limits stock input _ _ _ _ c.loop.backend c.loop.number c.loop.pending.items _ h c.loop.invariant.one_line c.in-Ok-eq0.ensures.bytes.0 (short_chunk c.in-Ok-eq0.field-0 c.read.new.buf few))
    (c.loop.invariant.streams limits stock stands)

pub returns-in_err-play_chunk-in-Ok-clause-memory : goal.returns-in_err-play_chunk-in-Ok-clause-memory
returns-in_err-play_chunk-in-Ok-clause-memory g c =
    let few : length c.read.new.buf ≤ 16384 = omega arith in
    λ is limits stock stands.
    if_some _ _ _
    (λ input h. pauses_streams c.args.numbers g.B.Backend.stands limits stock input _ _ _ _ c.loop.backend c.loop.number c.loop.pending.items _ h c.loop.invariant.one_line c.in-Ok.ensures.bytes.0 (short_chunk c.in-Ok.n c.read.new.buf few))
    (c.loop.invariant.streams limits stock stands)
