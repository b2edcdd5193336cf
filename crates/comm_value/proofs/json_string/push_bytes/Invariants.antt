use Rattle.std.proofs.Common.{◌≡◌, ◌≤◌, ◌-◌, ◌+◌, ◌++◌, length, take}
use Rattle.std.specs.Prelude.{vec_len, vec_capacity}
use Rattle.comm_value.proofs.json_string.push_bytes.Given as goal

-- the first bytes are appended, and there is room for the others
abbrev pub invariant-loop-at : goal.invariant-loop-at
invariant-loop-at l =
    (l.at ≤ length l.bytes) × (l.out.items ≡ l.initial.out.items ++ take l.at l.bytes) × (vec_len l.out ≡ vec_len l.initial.out + l.at)
    × (vec_capacity l.out ≡ vec_capacity l.initial.out)

abbrev pub decreases-loop-at : goal.decreases-loop-at
decreases-loop-at l = length l.bytes - l.at
