use Rattle.std.proofs.Common.{◌≡◌, ◌≤◌, ◌-◌, ◌++◌, length, drop}
use Rattle.json.specs.Print.{escape}
use Rattle.comm_value.proofs.json_string.write_escaped.Given as goal

-- what was written, and what is still to be escaped
abbrev pub invariant-loop-at : goal.invariant-loop-at
invariant-loop-at l = (l.at ≤ length l.bytes) × (l.out.items ++ escape (drop l.at l.bytes) ≡ l.initial.out.items ++ escape l.bytes)

abbrev pub decreases-loop-at : goal.decreases-loop-at
decreases-loop-at l = length l.bytes - l.at
