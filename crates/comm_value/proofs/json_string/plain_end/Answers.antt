use Rattle.std.proofs.Common.{rules}
use Rattle.comm_value.proofs.Escapes.{past_block, past_byte}
use Rattle.comm_value.proofs.json_string.plain_end.Goals as goal

pub loop-at-preserved : goal.loop-at-preserved
loop-at-preserved c =
    let room = c.loop-at-test.true in (
      search rules,
      search rules,
      past_block c.args.bytes.now c.args.from c.loop-at.at 8 c.loop-at.invariant.0 (search rules) c.loop-at.invariant.2 c.if-plain_at.ensures,
    )

pub loop-at-2-preserved : goal.loop-at-2-preserved
loop-at-2-preserved c = (
  search rules,
  search rules,
  past_byte c.args.bytes.now c.args.from c.loop-at-2.at c.loop-at-2.invariant.0 c.loop-at-2-test.true c.loop-at-2.invariant.2 c.if-not-needs_escape.ensures,
)
