-- A limit of comms that isn't out of its bounds is within them.
use Rattle.std.proofs.Common.{◌⊎◌, ◌<◌, ◌≤◌, ℕ, inl, inr, arith}
use Rattle.std.proofs.lemmas.Bool.{cases_lt}
use Rattle.comm_core.specs.Limits.{IsCommsLimit}

bounded : (comms : ℕ) → ¬ ¬ (IsCommsLimit comms) → (comms < 1) ⊎ (1 ≤ comms) → (1048576 < comms) ⊎ (comms ≤ 1048576) → IsCommsLimit comms
bounded comms not_out (inr low) (inr high) = (low, high)
bounded comms not_out (inl none) high = absurd (not_out (λ within. omega (arith, none, within.0)))
bounded comms not_out (inr low) (inl many) = absurd (not_out (λ within. omega (arith, many, within.1)))

pub limited : (comms : ℕ) → ¬ ¬ (IsCommsLimit comms) → IsCommsLimit comms
limited comms not_out = bounded comms not_out (cases_lt comms 1) (cases_lt 1048576 comms)
