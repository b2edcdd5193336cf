-- What contracts see of the two sides of the queue.
use Rattle.std.specs.Prelude.{ℕ, List, [], map}
use Rattle.std.specs.Arc.{arc_value}
use Rattle.std.specs.declared.sync.Arc.{Arc}
use Rattle.atomic_table.specs.Seated.{TableId}
use Rattle.comm_core.specs.declared.entry.Entry.{Entry}

abbrev pub entries_of : {Z : Type 0} → List (Arc Entry Z) → List Entry
entries_of entries = map arc_value entries

-- The side that puts: which queue it is of, the limits by which what is put is legal, how many places there are, how
-- many of them were found free and not filled since, and what was put.
pub record OutboxView : Type 0 where
  pub queue : TableId
  pub clients : ℕ
  pub comms : ℕ
  pub places : ℕ
  pub room : ℕ
  pub puts : List Entry

-- the side that takes: which queue it is of, the same limits, and what was taken
pub record PublisherView : Type 0 where
  pub queue : TableId
  pub clients : ℕ
  pub comms : ℕ
  pub taken : List Entry

-- nothing was put, so all places are free
abbrev pub new_outbox : TableId → ℕ → ℕ → ℕ → OutboxView
new_outbox queue clients comms places =
    record { queue = queue; clients = clients; comms = comms; places = places; room = places; puts = [] }

-- nothing was taken
abbrev pub new_publisher : TableId → ℕ → ℕ → PublisherView
new_publisher queue clients comms = record { queue = queue; clients = clients; comms = comms; taken = [] }
