-- Where no target is Free, a call has one outcome at most.
use Rattle.std.specs.Prelude.{ℕ, Bool, not, true, false, Option, Some, None}
use Rattle.std.specs.List.{list_all}
use Rattle.comm_targets.specs.Answers.{answer_of}
use Rattle.comm_targets.specs.declared.kind.Kind.{Kind}
use Rattle.comm_targets.specs.declared.kind.Kind.TheVariants.{Free}
use Rattle.comm_core.specs.Machine.{Registered, Machine, at}
use Rattle.comm_core.specs.Step.{Outcome, asks}
use Rattle.comm_core.specs.declared.target_request.TargetRequest.{TargetRequest}
use Rattle.comm_core.specs.declared.call.Call.{Call}
use Rattle.comm_core.specs.declared.call.Call.TheVariants.{Register}

abbrev pub is_free : Kind → Bool
is_free Free = true
is_free kind = false

-- no target is Free
abbrev pub is_exact : Machine → Bool
is_exact m = list_all (λ e. not (is_free e.1.kind)) m.targets

abbrev pub outcome_by : Option Registered → TargetRequest → Option Outcome
outcome_by None q = None
outcome_by (Some r) q = Some (answer_of r.kind r.notes q.state q.event)

abbrev pub outcome_at : Machine → Option TargetRequest → Option Outcome
outcome_at m None = None
outcome_at m (Some q) = outcome_by (at m.targets q.name) q

-- what the definition of the target's kind gives, where a target is asked
abbrev pub exact_outcome : ℕ → Machine → Call → Option Outcome
exact_outcome limit m call = outcome_at m (asks limit m call)

abbrev pub registers_free : Call → Bool
registers_free (Register name kind notes) = is_free kind
registers_free call = false
