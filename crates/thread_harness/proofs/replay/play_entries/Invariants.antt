use Rattle.std.proofs.Common.{◌≡◌, true}
use Rattle.thread_harness.proofs.replay.play_entries.Given as goal

abbrev pub invariant-loop-place : goal.invariant-loop-place
invariant-loop-place g l = l.core.settled ≡ true
