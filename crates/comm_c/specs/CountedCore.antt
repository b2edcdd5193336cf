-- A core with counts of its changes, and what one change does to it.
use Rattle.std.specs.Prelude.{◌≡◌, ℕ, ◌+◌, ◌≤◌, ◌<◌, List, [], ◌∷◌, true, Option, Some, slice_index, slice_set}
use Rattle.comm_value.specs.declared.from_json.Numbers.{Numbers}
use Rattle.comm_messages.specs.declared.outgoing.Outgoing.{Outgoing}
use Rattle.comm_targets.specs.declared.kind.Kind.{Kind}
use Rattle.comm_core.specs.declared.call.Call.{Call}
use Rattle.comm_core.specs.declared.call.Call.TheVariants as call
use Rattle.comm_core.specs.declared.reply.Reply.{Reply}
use Rattle.comm_core.specs.Machine.{Name}
use Rattle.comm_core.specs.Ready.{machine}
use Rattle.comm_core.specs.Step.{Outcome, Allowed, asks, step}
use Rattle.comm_c.specs.Subject.{subject_of}
use Rattle.comm_c.specs.declared.call_result.CallResult.{CallResult}
use Rattle.comm_c.specs.declared.call_result.CallResult.TheVariants.{Change}
use Rattle.comm_c.specs.declared.call_result.MadeChange.{MadeChange}
use Rattle.comm_c.specs.declared.counted_core.CountedCore.{CountedCore}
use Rattle.comm_c.specs.declared.subject.Subject.{Subject}

-- it has made at most n changes
pub record HasMadeAtMost (n : ℕ) (d : CountedCore) : Type 0 where
  pub changes : d.changes ≤ n
  pub made : (c : ℕ) → slice_index d.made c ≤ n

-- the next change of a client: its number among all, and among its client's
abbrev pub made_change : CountedCore → ℕ → Subject → Reply → List Outgoing → MadeChange
made_change d client subject reply outgoing = record {
  number = d.changes + 1;
  client = client;
  call = slice_index d.made client + 1;
  subject = subject;
  reply = reply;
  sent = outgoing;
}

-- A change of one of four clients: one step of the machine, with an outcome that the target's kind allows, its result,
-- and the counts. One outcome at most is allowed, since no built-in kind is free.
pub record Changes (before : CountedCore) (client : ℕ) (call : Call) (after : CountedCore) (result : CallResult)
    : Type 0 where
  pub below : client < 4
  pub outcome : Option Outcome
  pub reply : Reply
  pub outgoing : List Outgoing
  pub allowed : Allowed (machine before.core) (asks before.core.limit (machine before.core) call) outcome
  pub step_is : step before.core.limit (machine before.core) call outcome
      ≡ Some (record { reply = reply; outgoing = outgoing; next = machine after.core })
  pub limit : after.core.limit ≡ before.core.limit
  pub numbers : after.numbers ≡ before.numbers
  pub changes : after.changes ≡ before.changes + 1
  pub made : after.made ≡ slice_set before.made client (slice_index before.made client + 1)
  pub result_is : result ≡ Change (made_change before client (subject_of (machine before.core) call) reply outgoing)

-- a new target is registered, as a change
abbrev pub Registers : CountedCore → ℕ → Kind → Name → CountedCore → CallResult → Type 0
Registers d client kind name after result = Changes d client (call.Register name kind 0) after result

-- with no change made, this limit of comms, and these numbers as values
abbrev pub fresh_counted_core : ℕ → Numbers → CountedCore
fresh_counted_core comms numbers = record {
  core = record { limit = comms; targets = []; comms = []; settled = true };
  changes = 0;
  made = 0 ∷ 0 ∷ 0 ∷ 0 ∷ [];
  numbers = numbers;
}
