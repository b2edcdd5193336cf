-- A manager between its calls, and what stands ready between `prepare` and `commit`.
use Rattle.std.specs.Prelude.{◌≡◌, ℕ, Bool, true, false, List, Option, Some}
use Rattle.comm_messages.specs.declared.outgoing.Outgoing.{Outgoing}
use Rattle.comm_targets.specs.Meaning.{Meaning}
use Rattle.comm_core.specs.Machine.{Name, Machine}
use Rattle.comm_core.specs.Row.{row_in}
use Rattle.comm_core.specs.Step.{Outcome, Stepped, step, asks, Allowed}
use Rattle.comm_core.specs.Tables.{Targets, Opens, AnswerIsStaged, HaveStaged, unstaged, ended_of, machine_of}
use Rattle.comm_core.specs.Plans.{Suits, ended_by, planned, staged_by}
use Rattle.comm_core.specs.declared.call.Call.{Call}
use Rattle.comm_core.specs.declared.call.Call.TheVariants as call
use Rattle.comm_core.specs.declared.reply.Reply.{Reply}
use Rattle.comm_core.specs.declared.row.Row.{Row}
use Rattle.comm_core.specs.declared.table_update.TableUpdate.{TableUpdate}

-- ---- a manager

-- at most `limit` comms are open; `settled` says that no call stands ready
pub record CoreValue : Type 0 where
  pub limit : ℕ
  pub targets : Targets
  pub comms : Opens
  pub settled : Bool

-- the machine that it means
abbrev pub machine : CoreValue → Machine
machine s = machine_of s.targets s.comms

abbrev pub state : ℕ → Targets → Opens → Bool → CoreValue
state limit targets comms settled = record { limit = limit; targets = targets; comms = comms; settled = settled }

-- the state before the call that stands ready
abbrev pub undone : CoreValue → CoreValue
undone s = state s.limit (unstaged s.targets) s.comms true

-- the call hands no target in
abbrev pub HandsNothingIn : Call → Type 0
HandsNothingIn (call.Register name kind notes) = ⊥
HandsNothingIn c = Unit {0}

-- the call that registers this target
abbrev pub register_of : Name → Meaning → Call
register_of name m = call.Register name m.kind m.notes

-- one step of the manager: its call, what a target gave, the reply, what goes out, and the state after it
abbrev pub IsStep : CoreValue → Call → Option Outcome → Reply → List Outgoing → CoreValue → Type 0
IsStep before c o reply outgoing after =
    step before.limit (machine before) c o ≡ Some (record { reply = reply; outgoing = outgoing; next = machine after })

-- one step of the manager, with an outcome that the target that is asked may give
abbrev pub IsAllowedStep : CoreValue → Call → Reply → List Outgoing → CoreValue → Type 0
IsAllowedStep before c reply outgoing after =
    (o : Option Outcome) × Allowed (machine before) (asks before.limit (machine before) c) o
    × IsStep before c o reply outgoing after

-- ---- what stands ready

-- what stands ready: the call, what a target gave, the reply, what goes out, what is to be done, and a target that was
-- handed in
pub record Readied : Type 0 where
  pub call : Call
  pub outcome : Option Outcome
  pub reply : Reply
  pub outgoing : List Outgoing
  pub table_update : TableUpdate
  pub registered : Option Meaning

abbrev pub readied : Call → Option Outcome → Reply → List Outgoing → TableUpdate → Option Meaning → Readied
readied c o r out table_update registered = record { call = c; outcome = o; reply = r; outgoing = out; table_update = table_update; registered = registered }

-- in this state, its outcome is one that the target that is asked may give
abbrev pub HasAllowedOutcome : CoreValue → Readied → Type 0
HasAllowedOutcome s r = Allowed (machine s) (asks s.limit (machine s) r.call) r.outcome

-- of the targets after it, the one that its call asks in the state before has its answer staged, and no other anything
abbrev pub HasStagedAnswer : CoreValue → Targets → Readied → Type 0
HasStagedAnswer before after r = AnswerIsStaged after (asks before.limit (machine before) r.call) r.outcome

-- its reply and what goes out are those of its call's step from this state
abbrev pub MakesItsStep : CoreValue → Readied → Type 0
MakesItsStep s r =
    (t : Stepped) × (step s.limit (machine s) r.call r.outcome ≡ Some t) × (r.reply ≡ t.reply)
    × (r.outgoing ≡ t.outgoing)

-- what it changes in the comms that readers see
abbrev pub row_at : CoreValue → Readied → Row
row_at s r = row_in (machine s) r.call r.outcome r.reply

-- It was made by a `prepare` of this manager, whose state it is now. This is a token: `prepare`, `begin` and
-- `begin_register` give it, `commit`, `abort`, `finish` and `withdraw` take it, and a caller needn't read it. The
-- outcome is allowed and stands staged where it is an answer, the reply and what goes out are those of the step, and
-- the update of the table, which is private, makes the step's machine of the tables.
pub record IsReady (s : CoreValue) (r : Readied) : Type 0 where
  pub prepared : s.settled ≡ false
  pub allowed : Allowed (machine s) (asks s.limit (machine s) r.call) r.outcome
  pub staged : AnswerIsStaged s.targets (asks s.limit (machine s) r.call) r.outcome
  pub step_is : step s.limit (machine s) r.call r.outcome
      ≡ Some (record { reply = r.reply; outgoing = r.outgoing; next = planned (machine s) r.table_update r.outcome })
  pub stages : HaveStaged s.targets (staged_by r.table_update r.outcome)
  pub suits : Suits (unstaged s.targets) s.comms r.registered r.table_update r.outcome
  pub ended : ended_by s.targets r.table_update ≡ ended_of s.targets r.call
