use Rattle.std.proofs.Common.{true, false, refl}
use Rattle.comm_value.proofs.Escapes.{plain_so_far}
use Rattle.comm_value.proofs.json_string.few_are_plain.Goals as goal

pub loop-byte-preserved : goal.loop-byte-preserved
loop-byte-preserved c = plain_so_far c.args.bytes.now c.loop-byte.byte-index true false c.loop-byte-test.true c.if-needs_escape.ensures (λ _. c.loop-byte.invariant) refl
