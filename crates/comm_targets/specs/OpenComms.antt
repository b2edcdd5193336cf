-- What a target keeps of its comms: the ids that are open, and what is staged.
use Rattle.std.specs.Prelude.{◌≡◌, ◌-◌, ◌^◌, ◌<◌, ℕ, true, List, Option, None, Some}
use Rattle.comm_targets.specs.declared.event.Event.{Event}
use Rattle.comm_targets.specs.declared.staged_event.StagedEvent.{StagedEvent}
use Rattle.comm_targets.specs.declared.answer.Answer.{Answer}
use Rattle.comm_targets.specs.Meaning.{ids_after, is_opening}

-- the ids of the open comms in the order of opening, and what is staged
pub record OpenAndStaged : Type 0 where
  pub ids : List (List ℕ)
  pub staged : Option StagedEvent

-- the event is staged with this answer
abbrev pub with_staged : OpenAndStaged → Event → Answer → OpenAndStaged
with_staged b e a = record { ids = b.ids; staged = Some (record { event = e; answer = a }) }

-- what is staged is done: an event that opens a comm adds its id
abbrev pub with_done : OpenAndStaged → Event → OpenAndStaged
with_done b e = record { ids = ids_after b.ids e; staged = None }

-- what is staged can be counted
abbrev pub CanCommit : Option StagedEvent → ℕ → Type 0
CanCommit None count = Unit {0}
CanCommit (Some s) count = is_opening s.event ≡ true → count < 2 ^ 64 - 1
