use Rattle.std.proofs.Common.{◌≡◌, true}
use Rattle.oom_tests.proofs.tests.core_steps.play.Given as goal

abbrev pub invariant-loop-line : goal.invariant-loop-line
invariant-loop-line g l = l.core.settled ≡ true
