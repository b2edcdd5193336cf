-- What the lock keeps.
use Rattle.std.specs.Prelude.{ℕ, ◌≡◌, ◌≤◌, ◌+◌, false, List, [], ◌∷◌, length}
use Rattle.comm_core.specs.Limits.{AreAllowed}
use Rattle.comm_core.specs.History.{IsLegal, has_end, mine}
use Rattle.comm_core.specs.Ready.{CoreValue}
use Rattle.comm_core.specs.declared.entry.Entry.{Entry}
use Rattle.comm_core.specs.declared.limits.Limits.{Limits}
use Rattle.atomic_table.specs.Seated.{TableId}
use Rattle.comm_outbox.specs.Sides.{OutboxView, PublisherView}
use Rattle.comm_versions.specs.Asked.{Rests}
use Rattle.comm_versions.specs.Known.{WriterValue}

-- how many entries of each client there are, of the clients 0 to 3
abbrev pub counts : List Entry → List ℕ
counts history =
    length (mine history 0) ∷ length (mine history 1) ∷ length (mine history 2) ∷ length (mine history 3) ∷ []

-- The side of the queue that puts, once it has put the history: one place more than entries may wait is there, and
-- one at least was found free, for an end.
pub record OutboxInvariant (queue : TableId) (limits : Limits) (history : List Entry)
    (outbox : OutboxView) : Type 0 where
  pub queue_is : outbox.queue ≡ queue
  pub clients_are : outbox.clients ≡ limits.clients
  pub comms_are : outbox.comms ≡ limits.comms
  pub places_are : outbox.places ≡ limits.outbox + 1
  pub room : 1 ≤ outbox.room
  pub puts_are : outbox.puts ≡ history

-- the side that takes, once it has taken these
abbrev pub publisher_after : TableId → Limits → List Entry → PublisherView
publisher_after queue limits taken =
    record { queue = queue; clients = limits.clients; comms = limits.comms; taken = taken }

-- The history is legal and not ended, within the limits, and it is what is published; the tables rest after it; the
-- totals are those of its clients.
pub record LockInvariant (limits : Limits) (history : List Entry) (core : CoreValue) (writer : WriterValue)
    (totals : List ℕ) : Type 0 where
  pub legal : IsLegal limits.clients limits.comms history
  pub going : has_end history ≡ false
  pub front_is : writer.front ≡ history
  pub pending_is : writer.pending ≡ []
  pub rests : Rests limits.comms history core
  pub totals_are : totals ≡ counts history
  pub few : length history ≤ limits.history
  pub allowed : AreAllowed limits
