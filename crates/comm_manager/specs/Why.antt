-- Why a change or a shutdown is refused.
use Rattle.std.specs.Prelude.{ℕ, zero, suc, ◌≡◌, ◌<◌, ◌≤◌, ◌==◌, Bool, true, false, ◌&&◌, List, length}
use Rattle.std.specs.List.{list_any}
use Rattle.comm_core.specs.History.{IsLegal}
use Rattle.comm_core.specs.Limits.{AreAllowed}
use Rattle.comm_core.specs.declared.limits.Limits.{Limits}
use Rattle.comm_core.specs.declared.limits.NewFault.{NewFault}
use Rattle.comm_core.specs.declared.limits.NewFault.TheVariants as fault
use Rattle.comm_core.specs.declared.entry.Entry.{Entry}
use Rattle.comm_core.specs.declared.unavailable.Unavailable.{Unavailable}
use Rattle.comm_core.specs.declared.unavailable.Unavailable.TheVariants.{Memory, HistoryFull, OutboxFull}
use Rattle.comm_manager.specs.declared.shared.Cause.{Cause}
use Rattle.comm_manager.specs.declared.shared.Cause.TheVariants as cause
use Rattle.comm_versions.specs.ClientView.{ClientView}

-- the stamp's front is a whole history, of as many changes as it may have; as many entries wait as may, or more
abbrev pub IsReason : Limits → Unavailable (List Entry) → Type 0
IsReason limits (HistoryFull stamp) = (length stamp ≡ limits.history) × IsLegal limits.clients limits.comms stamp
IsReason limits (OutboxFull waiting) = limits.outbox ≤ waiting
IsReason limits Memory = Unit {0}

-- After so many entries: the history is full, and the stamp is of all of it. Each other reason comes only where there
-- is room for one more, so that a full history is told first.
abbrev pub IsHistoryFirst : Limits → List Entry → Unavailable (List Entry) → Type 0
IsHistoryFirst limits history (HistoryFull stamp) = (stamp ≡ history) × (length history ≡ limits.history)
IsHistoryFirst limits history why = length history < limits.history

-- a limit is out of its bounds; or memory ran out
abbrev pub IsBarred : Limits → NewFault → Type 0
IsBarred limits fault.BadLimits = AreAllowed limits → ⊥
IsBarred limits fault.Memory = AreAllowed limits

-- the client is among these
abbrev pub is_here : ℕ → List ClientView → Bool
is_here c ws = list_any (λ (w : ClientView). w.client == c) ws

-- the first n clients are
abbrev pub all_here : ℕ → List ClientView → Bool
all_here zero ws = true
all_here (suc n) ws = is_here n ws && all_here n ws

-- why a shutdown is refused: a client is missing; or none is, and memory ran out
abbrev pub IsMissing : ℕ → List ClientView → Cause → Type 0
IsMissing n ws cause.MissingClients = all_here n ws ≡ false
IsMissing n ws cause.Memory = all_here n ws ≡ true
