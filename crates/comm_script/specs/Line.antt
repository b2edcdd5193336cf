-- What reading a line gives: what it asks for, or the first test that fails. Want of memory is left open.
use Rattle.std.specs.Prelude.{Bool, true, false, Result, Ok, Err}
use Rattle.comm_value.specs.Gives as any
use Rattle.comm_messages.specs.Gives as message
use Rattle.comm_messages.specs.declared.fault.MessageFault.TheVariants as message_fault
use Rattle.comm_value.specs.declared.fault.ValueFault.TheVariants as value_fault
use Rattle.comm_script.specs.declared.asked.LineFault.{LineFault}
use Rattle.comm_script.specs.declared.asked.LineFault.TheVariants.{Message, Value}

abbrev pub Reading : Type 0 → Type 0
Reading A = Result A LineFault

-- a fault of a message's part is one of the line
abbrev pub of_message : {A : Type 0} → message.Reading A → Reading A
of_message (Ok x) = Ok x
of_message (Err e) = Err (Message e)

abbrev pub is_memory : LineFault → Bool
is_memory (Message message_fault.Memory) = true
is_memory (Value value_fault.Memory) = true
is_memory _ = false

-- what a function returned, seen by view, is what the reading gives
abbrev pub Gives : {X A : Type 0} → (X → A) → Result X LineFault → Reading A → Type 0
Gives view result reading = any.Gives is_memory view result reading
