use Rattle.std.proofs.Common.{◌≡◌, ◌+◌, drop, sum}
use Rattle.comm_c.proofs.input.add_up.Given as goal

abbrev pub invariant-loop-size : goal.invariant-loop-size
invariant-loop-size l = sum (drop l.size-index l.sizes) + l.whole ≡ sum l.sizes + l.left
