use Rattle.std.proofs.Common.{◌≤◌, ◌-◌, length}
use Rattle.comm_value.proofs.Escapes.{IsRun}
use Rattle.comm_value.proofs.json_string.plain_end.Given as goal

abbrev pub invariant-loop-at : goal.invariant-loop-at
invariant-loop-at l = (l.from ≤ l.at) × (l.at ≤ length l.bytes) × IsRun l.bytes l.from l.at

abbrev pub decreases-loop-at : goal.decreases-loop-at
decreases-loop-at l = length l.bytes - l.at

abbrev pub invariant-loop-at-2 : goal.invariant-loop-at-2
invariant-loop-at-2 l = (l.from ≤ l.at) × (l.at ≤ length l.bytes) × IsRun l.bytes l.from l.at

abbrev pub decreases-loop-at-2 : goal.decreases-loop-at-2
decreases-loop-at-2 l = length l.bytes - l.at
