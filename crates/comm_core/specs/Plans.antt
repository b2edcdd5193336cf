-- How a call is planned, and how the update of the table is carried out; for proofs and private clauses.
use Rattle.std.specs.Prelude.{◌≡◌, ◌<◌, ℕ, Bool, true, false, List, Option, None, Some, Ok, is_some}
use Rattle.std.specs.Prelude.{option_map, if◌then◌else◌}
use Rattle.std.specs.Str.{bytes_eq}
use Rattle.comm_messages.specs.declared.outgoing.Outgoing.{Outgoing}
use Rattle.comm_targets.specs.Meaning.{Meaning, IsIdle}
use Rattle.comm_targets.specs.declared.kind.Kind.{Kind}
use Rattle.comm_targets.specs.declared.staged_event.StagedEvent.{StagedEvent}
use Rattle.comm_targets.specs.declared.event.Event.{Event}
use Rattle.comm_targets.specs.declared.event.Event.TheVariants as event
use Rattle.comm_targets.specs.declared.fault.TargetFault.{TargetFault}
use Rattle.comm_targets.specs.declared.fault.TargetFault.TheVariants as fault
use Rattle.comm_core.specs.Machine.{Name, Machine, at, has}
use Rattle.comm_core.specs.Step.{Outcome, Done, AskTarget, Stepped, step, asks, judged, stepped}
use Rattle.comm_core.specs.Step.{answer_step, with_target, with_another, without_target, without_comm}
use Rattle.comm_core.specs.Step.{holds_widget, Allowed}
use Rattle.comm_core.specs.Tables.{Targets, Opens, Agrees, AnswerIsStaged, HaveStaged, unstaged, emptied}
use Rattle.comm_core.specs.Tables.{ended_of, machine_of, targets_of}
use Rattle.comm_core.specs.declared.comm.Comm.{Comm}
use Rattle.comm_core.specs.declared.target_request.TargetRequest.{TargetRequest}
use Rattle.comm_core.specs.declared.call.Call.{Call}
use Rattle.comm_core.specs.declared.reply.Reply.{Reply}
use Rattle.comm_core.specs.declared.table_update.TableUpdate.{TableUpdate}
use Rattle.comm_core.specs.declared.table_update.TableUpdate.TheVariants.{Register, Replace, Unregister}
use Rattle.comm_core.specs.declared.table_update.TableUpdate.TheVariants.{Close, Commit}
use Rattle.comm_core.specs.declared.evaluation.Evaluation.{Evaluation}

-- ---- the tables

-- the tables agree; where no call stands ready nothing is staged, else there is room for one more target and one more
-- comm
pub record IsSound (targets : Targets) (free : ℕ) (comms : Opens) (spare : ℕ) (settled : Bool) : Type 0 where
  pub agrees : Agrees (unstaged targets) comms
  pub nothing_staged : settled ≡ true → HaveStaged targets (λ _. None)
  pub room : settled ≡ false → 0 < free
  pub space : settled ≡ false → 0 < spare

-- the tables agree, nothing is staged, and they mean this machine
abbrev pub Carried : Targets → Opens → Machine → Type 0
Carried targets comms m = Agrees (unstaged targets) comms × HaveStaged targets (λ _. None) × (machine_of targets comms ≡ m)

-- ---- an update of the table

-- the machine after the update of the table is carried out
abbrev pub planned : Machine → TableUpdate → Option Outcome → Machine
planned m (Register name kind notes) o = with_target m name kind notes
planned m (Replace name kind notes) o = with_another m name kind notes
planned m (Unregister name) o = without_target m name
planned m (Close id place) o = without_comm m id
planned m (Commit q) (Some (Ok a)) = (answer_step m q.name q.event a).next
planned m table_update o = m

-- it is what the definition says of a call that asks no target
abbrev pub HasVerdict : ℕ → Targets → Opens → Call → Evaluation → Type 0
HasVerdict limit targets comms c e =
    (e.outcome ≡ None) × (Done e.reply e.outgoing.items (planned (machine_of targets comms) e.table_update None)
    ≡ judged limit (machine_of targets comms) c)

-- the step has this reply, and this goes out by it
abbrev pub GivesReply : Stepped → Reply → List Outgoing → Type 0
GivesReply s reply outgoing = s ≡ record { reply = reply; outgoing = outgoing; next = s.next }

-- what is staged in the target of this name
abbrev pub staged_by : TableUpdate → Option Outcome → Name → Option StagedEvent
staged_by (Commit q) (Some (Ok a)) name =
    if bytes_eq name q.name then Some (record { event = q.event; answer = a }) else None
staged_by table_update o name = None

-- a comm is opened that isn't there, or told that is the target's
abbrev pub SuitsComms : Opens → Name → Event → Type 0
SuitsComms comms name (event.Open id version body) = at comms id ≡ None
SuitsComms comms name (event.Launch id state) = at comms id ≡ None
SuitsComms comms name (event.Msg id body) = (c : Comm) × (at comms id ≡ Some c) × (c.target ≡ name)
SuitsComms comms name (event.Push id state) = (c : Comm) × (at comms id ≡ Some c) × (c.target ≡ name)

-- the kernel's own events are for widgets
abbrev pub SuitsKind : Targets → Name → Event → Type 0
SuitsKind targets name (event.Open id version body) = Unit {0}
SuitsKind targets name (event.Msg id body) = Unit {0}
SuitsKind targets name (event.Launch id state) = holds_widget (at (targets_of targets) name) ≡ true
SuitsKind targets name (event.Push id state) = holds_widget (at (targets_of targets) name) ≡ true

-- a widget refuses neither of the kernel's own events
abbrev pub CanRefuse : Event → Type 0
CanRefuse (event.Launch id state) = ⊥
CanRefuse (event.Push id state) = ⊥
CanRefuse e = Unit {0}

-- the target is there, and may be asked this
pub record CanAsk (targets : Targets) (comms : Opens) (q : TargetRequest) : Type 0 where
  pub here : has (targets_of targets) q.name ≡ true
  pub comms_suit : SuitsComms comms q.name q.event
  pub kind_suits : SuitsKind targets q.name q.event

-- the target that a register hands in is idle, and of the kind and with the notes of the call
abbrev pub IsNewcomer : Targets → Name → Option Meaning → Meaning → Type 0
IsNewcomer targets name registered m = (registered ≡ Some m) × (at targets name ≡ None) × IsIdle m

-- so is one that replaces the target of the name
abbrev pub IsSuccessor : Targets → Name → Option Meaning → Meaning → Type 0
IsSuccessor targets name registered m = (registered ≡ Some m) × (is_some (at targets name) ≡ true) × IsIdle m

-- the update of the table can be carried out on these tables
abbrev pub Suits : Targets → Opens → Option Meaning → TableUpdate → Option Outcome → Type 0
Suits targets comms registered (Register name kind notes) o =
    (m : Meaning) × IsNewcomer targets name registered m × (m.kind ≡ kind) × (m.notes ≡ notes)
Suits targets comms registered (Replace name kind notes) o =
    (m : Meaning) × IsSuccessor targets name registered m × (m.kind ≡ kind) × (m.notes ≡ notes)
Suits targets comms registered (Commit q) (Some (Ok a)) = (is_some (at targets q.name) ≡ true) × SuitsComms comms q.name q.event
Suits targets comms registered (Commit q) o = ⊥
Suits targets comms registered table_update o = Unit {0}

-- the update of the table of a register
abbrev pub registering : Targets → Name → Kind → ℕ → TableUpdate
registering targets name kind notes =
    if has (targets_of targets) name then Replace name kind notes else Register name kind notes

-- the target that an update of the table ends, with its comms closed
abbrev pub ended_by : Targets → TableUpdate → Option Meaning
ended_by targets (Unregister name) = option_map emptied (at targets name)
ended_by targets (Replace name kind notes) = option_map emptied (at targets name)
ended_by targets table_update = None

-- ---- what comes of a call

-- what a call comes to that asks no target can be carried out
abbrev pub IsFeasible : Targets → Opens → Call → Evaluation → Type 0
IsFeasible targets comms c e =
    Suits (unstaged targets) comms None e.table_update None × (ended_by targets e.table_update ≡ ended_of targets c)

-- What came of a question: reply and outgoing of the step, an outcome that is allowed, and what is staged now.
pub record HasAnswered (old : Targets) (comms : Opens) (q : TargetRequest) (o : Option Outcome) (r : Reply)
    (out : List Outgoing) (table_update : TableUpdate) (new : Targets) : Type 0 where
  pub step_is : stepped (machine_of old comms) (AskTarget q) o
      ≡ Some (record { reply = r; outgoing = out; next = planned (machine_of old comms) table_update o })
  pub allowed : Allowed (machine_of old comms) (Some q) o
  pub staged : AnswerIsStaged new (Some q) o
  pub stages : HaveStaged new (staged_by table_update o)
  pub unstaged_is : unstaged new ≡ unstaged old
  pub suits : Suits (unstaged new) comms None table_update o
  pub ended : ended_by new table_update ≡ None

-- What came of a call: reply and outgoing of the step, an outcome that is allowed, and what is staged now.
pub record HasCome (limit : ℕ) (old : Targets) (comms : Opens) (c : Call) (o : Option Outcome) (r : Reply)
    (out : List Outgoing) (table_update : TableUpdate) (new : Targets) : Type 0 where
  pub step_is : step limit (machine_of old comms) c o
      ≡ Some (record { reply = r; outgoing = out; next = planned (machine_of old comms) table_update o })
  pub allowed : Allowed (machine_of old comms) (asks limit (machine_of old comms) c) o
  pub staged : AnswerIsStaged new (asks limit (machine_of old comms) c) o
  pub stages : HaveStaged new (staged_by table_update o)
  pub unstaged_is : unstaged new ≡ unstaged old
  pub suits : Suits (unstaged new) comms None table_update o
  pub ended : ended_by new table_update ≡ ended_of new c

abbrev pub is_memory : TargetFault → Bool
is_memory fault.Memory = true
is_memory f = false
