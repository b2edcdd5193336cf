use Rattle.std.proofs.Common.{◌<◌, sym, ◌∙◌, length, arith}
use Rattle.comm_versions.proofs.Positions.{absent_end, gap_before, gap_position}
use Rattle.comm_versions.proofs.position.is_gap.Goals as goal

pub returns-then-i-comms : goal.returns-then-i-comms
returns-then-i-comms c holds =
    let k = c.args.id.now in
    let ps = c.args.chunks.now in
    let n = c.args.chunk in
    let within : n < length ps = omega arith in
    let next = gap_before k ps n c.index-chunks-chunk.result c.deref.result.now c.as_slice-comms.result.now within c.index-chunks-chunk.is c.deref.ensures c.as_slice-comms.ensures.value c.requires.ordered
    c.args.i c.index-comms-i-then-i-comms.result (omega arith) c.index-comms-i-then-i-comms.is (sym c.is_above.ensures ∙ holds) in
    gap_position k ps n c.index-chunks-chunk.result c.deref.result.now c.as_slice-comms.result.now within c.index-chunks-chunk.is c.deref.ensures c.as_slice-comms.ensures.value c.requires.ordered
    c.args.i c.index-comms-i.result (omega arith) (omega arith) c.index-comms-i.is (sym c.is_below.ensures ∙ c.if-not-is_below.false) next.0 next.1

pub returns-else-i-comms : goal.returns-else-i-comms
returns-else-i-comms c holds =
    let k = c.args.id.now in
    let ps = c.args.chunks.now in
    let n = c.args.chunk in
    let within : n < length ps = omega arith in
    gap_position k ps n c.index-chunks-chunk.result c.deref.result.now c.as_slice-comms.result.now within c.index-chunks-chunk.is c.deref.ensures c.as_slice-comms.ensures.value c.requires.ordered
    c.args.i c.index-comms-i.result (omega arith) (omega arith) c.index-comms-i.is (sym c.is_below.ensures ∙ c.if-not-is_below.false) (absent_end k c.as_slice-comms.result.now c.args.i (omega arith)) (c.is_below-else-i-comms.ensures holds)
