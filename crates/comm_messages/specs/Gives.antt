-- What a reader gives: a value, or the first test that fails. Out of memory leaves the result open.
use Rattle.std.specs.Prelude.{Bool, true, false, Result}
use Rattle.comm_value.specs.Gives as any
use Rattle.comm_messages.specs.declared.fault.MessageFault.{MessageFault}
use Rattle.comm_messages.specs.declared.fault.MessageFault.TheVariants.{Memory}

abbrev pub Reading : Type 0 → Type 0
Reading A = Result A MessageFault

abbrev pub is_memory : MessageFault → Bool
is_memory Memory = true
is_memory _ = false

-- what a function returned, seen by view, is what the reading gives
abbrev pub Gives : {X A : Type 0} → (X → A) → Result X MessageFault → Reading A → Type 0
Gives view result reading = any.Gives is_memory view result reading
