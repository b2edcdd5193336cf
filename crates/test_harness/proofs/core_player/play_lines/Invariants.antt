use Rattle.std.proofs.Common.{◌≡◌, true}
use Rattle.test_harness.proofs.core_player.play_lines.Given as goal

abbrev pub invariant-loop-line : goal.invariant-loop-line
invariant-loop-line g l = l.core.settled ≡ true
