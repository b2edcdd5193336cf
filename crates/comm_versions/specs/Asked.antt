-- What comes of what a client asks for, and what is true of a manager's tables between two changes.
use Rattle.std.specs.Prelude.{ℕ, ◌≡◌, true, List, [], ◌∷◌, ◌++◌, Option}
use Rattle.comm_messages.specs.declared.outgoing.Outgoing.{Outgoing}
use Rattle.comm_core.specs.Step.{Outcome}
use Rattle.comm_core.specs.History.{replay}
use Rattle.comm_core.specs.Ready.{CoreValue, Readied, machine}
use Rattle.comm_core.specs.declared.call.Call.{Call}
use Rattle.comm_core.specs.declared.entry.Entry.{Entry}
use Rattle.comm_core.specs.declared.entry.Entry.TheVariants.{Change}
use Rattle.comm_core.specs.declared.reply.Reply.{Reply}

-- the entry is this call of the client, by this number, answered so
abbrev pub IsCall : Entry → (client number : ℕ) → Call → Reply → Type 0
IsCall e client number asked reply =
    (outcome : Option Outcome) × (outgoing : List Outgoing) × (e ≡ Change client number asked outcome reply outgoing)

-- the entry of what stands ready
abbrev pub ready_entry : (client number : ℕ) → Readied → Entry
ready_entry client number r = Change client number r.call r.outcome r.reply r.outgoing

-- the entry is the last one now
pub record IsNext (before after : List Entry) (client number : ℕ) (asked : Call) (reply : Reply) : Type 0 where
  pub came : Entry
  pub is_call : IsCall came client number asked reply
  pub history_is : after ≡ before ++ came ∷ []

-- No change stands ready, so the targets mean the machine and nothing is staged (`Core::settled`), and the machine is
-- that after the history.
pub record Rests (limit : ℕ) (history : List Entry) (core : CoreValue) : Type 0 where
  pub settled : core.settled ≡ true
  pub limit_is : core.limit ≡ limit
  pub machine_is : machine core ≡ replay limit history
