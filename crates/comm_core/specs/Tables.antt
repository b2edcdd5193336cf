-- The tables of a manager, the machine that they mean, and what is staged in them.
use Rattle.std.specs.Prelude.{◌≡◌, ℕ, true, List, [], ◌∷◌, Option, None, Some, Ok, is_some, map, option_map}
use Rattle.std.specs.Prelude.{if◌then◌else◌}
use Rattle.std.specs.Str.{bytes_eq}
use Rattle.comm_targets.specs.Meaning.{Meaning, after_abandon, IsIdle}
use Rattle.comm_targets.specs.declared.staged_event.StagedEvent.{StagedEvent}
use Rattle.comm_core.specs.Machine.{Name, Registered, Machine, AreDistinct, at, ids_of}
use Rattle.comm_core.specs.Step.{Outcome}
use Rattle.comm_core.specs.declared.comm.Comm.{Comm}
use Rattle.comm_core.specs.declared.target_request.TargetRequest.{TargetRequest}
use Rattle.comm_core.specs.declared.call.Call.{Call}
use Rattle.comm_core.specs.declared.call.Call.TheVariants.{Register, Unregister}

-- entries by name, and how many more fit with no memory
pub record Table (X : Type 0) : Type 0 where
  pub all : List (Name × X)
  pub room : ℕ

-- what the targets mean, by name
abbrev pub Targets : Type 0
Targets = List (Name × Meaning)

abbrev pub Opens : Type 0
Opens = List (Name × Comm)

-- what a target tells of itself
abbrev pub registered_of : Meaning → Registered
registered_of m = record { kind = m.kind; notes = m.notes }

abbrev pub targets_of : Targets → List (Name × Registered)
targets_of targets = map (λ e. (e.0, registered_of e.1)) targets

abbrev pub machine_of : Targets → Opens → Machine
machine_of targets comms = record { targets = targets_of targets; comms = comms }

-- an entry, if there is one
abbrev pub entry_of : Option (Name × Meaning) → Targets
entry_of None = []
entry_of (Some e) = e ∷ []

-- ---- the targets and the comms

-- no name and no id stands twice; each target has the ids of its comms, in the order of opening; and each comm's
-- target is there
pub record Agrees (targets : Targets) (comms : Opens) : Type 0 where
  pub names : AreDistinct targets
  pub distinct : AreDistinct comms
  pub ids : (name : Name) (m : Meaning) → at targets name ≡ Some m → m.ids ≡ ids_of name comms
  pub named : (id : Name) (c : Comm) → at comms id ≡ Some c → is_some (at targets c.target) ≡ true

-- the targets have this staged, and nothing else
abbrev pub HaveStaged : Targets → (Name → Option StagedEvent) → Type 0
HaveStaged targets staged = (name : Name) (m : Meaning) → at targets name ≡ Some m → m.staged ≡ staged name

-- the targets mean the machine: the tables agree, and nothing is staged
pub record TargetsMean (targets : Targets) (comms : Opens) : Type 0 where
  pub agrees : Agrees targets comms
  pub nothing_staged : HaveStaged targets (λ _. None)

-- the targets, with nothing staged
abbrev pub unstaged : Targets → Targets
unstaged targets = map (λ e. (e.0, after_abandon e.1)) targets

-- what is staged in the target of this name: the answer of the one that was asked, with its event
abbrev pub staged_as : Option Outcome → Option TargetRequest → Name → Option StagedEvent
staged_as (Some (Ok a)) (Some q) name =
    if bytes_eq name q.name then Some (record { event = q.event; answer = a }) else None
staged_as o q name = None

-- an answer stands staged in the target that was asked, and nothing else is staged
abbrev pub AnswerIsStaged : Targets → Option TargetRequest → Option Outcome → Type 0
AnswerIsStaged targets asked outcome = HaveStaged targets (staged_as outcome asked)

-- ---- a target that ends

-- a target whose comms are closed
abbrev pub emptied : Meaning → Meaning
emptied m = record { kind = m.kind; notes = m.notes; ids = []; staged = m.staged }

-- the target that a call ends
abbrev pub ended_of : Targets → Call → Option Meaning
ended_of targets (Unregister name) = option_map emptied (at targets name)
ended_of targets (Register name kind notes) = option_map emptied (at targets name)
ended_of targets call = None

abbrev pub IdleWhere : Option Meaning → Type 0
IdleWhere None = Unit {0}
IdleWhere (Some m) = IsIdle m
