-- What a function gives: what the definition says, or that memory ran out.
use Rattle.std.specs.Prelude.{Bool, true, false, Result}
use Rattle.comm_value.specs.Gives as value
use Rattle.comm_targets.specs.declared.fault.TargetFault.{TargetFault}
use Rattle.comm_targets.specs.declared.fault.TargetFault.TheVariants.{Memory}

abbrev pub is_memory : TargetFault → Bool
is_memory Memory = true
is_memory fault = false

abbrev pub Gives : {A : Type 0} → Result A TargetFault → Result A TargetFault → Type 0
Gives result said = value.Gives is_memory (λ x. x) result said
