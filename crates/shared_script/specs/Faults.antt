-- Why a change isn't made or a read gives nothing, in a script's words.
use Rattle.std.specs.Prelude.{ℕ, ◌≡◌, List, ◌++◌, Option, Some, None}
use Rattle.comm_core.specs.declared.unavailable.Unavailable.{Unavailable}
use Rattle.comm_core.specs.declared.unavailable.Unavailable.TheVariants.{Memory, HistoryFull, OutboxFull}
use Rattle.comm_script.specs.declared.fault.RunFault.{RunFault}
use Rattle.comm_script.specs.declared.fault.RunFault.TheVariants as run
use Rattle.comm_versions.specs.declared.reads.ReadFault.{ReadFault}
use Rattle.comm_versions.specs.declared.reads.ReadFault.TheVariants as read
use Rattle.shared_script.specs.Words.{unavailable_line}
use Rattle.shared_script.specs.declared.wording.Full.{Full}
use Rattle.shared_script.specs.declared.wording.Full.TheVariants as full

-- what has no room for the change; none for want of memory
abbrev pub full_of : {S : Type 0} → Unavailable S → Option Full
full_of Memory = None
full_of (HistoryFull stamp) = Some full.History
full_of (OutboxFull waiting) = Some full.Outbox

-- The line says what has no room. Want of memory can't be said.
abbrev pub IsSaid : ℕ → Option Full → (old new : List ℕ) → Type 0
IsSaid n None old new = ⊥
IsSaid n (Some f) old new = new ≡ old ++ unavailable_line n f

-- why a read that gives nothing ends a script
abbrev pub run_fault : ReadFault → RunFault
run_fault read.Memory = run.Memory
run_fault read.NoVersion = run.NoReader
