-- What lists of comms show, and since when the same comms are listed; for private clauses.
use Rattle.std.specs.Prelude.{ℕ, ◌≡◌, ◌<◌, List, Option, Some, map, filter, length}
use mathlib.Core.List.{IsPrefix}
use Rattle.comm_messages.specs.declared.infos.Info.{Info}
use Rattle.comm_core.specs.History.{replay}
use Rattle.comm_core.specs.Machine.{Name}
use Rattle.comm_core.specs.Reads.{info_of, passes}
use Rattle.comm_core.specs.Row.{rows}
use Rattle.comm_core.specs.Tables.{Opens}
use Rattle.comm_core.specs.declared.entry.Entry.{Entry}

-- what is listed of these comms, those of one target where a name is given
abbrev pub listed_infos : Opens → Option Name → List Info
listed_infos es asked = map info_of (filter (λ e. passes asked e.1.target) es)

-- whatever is asked for, both list the same
abbrev pub ListAlike : Opens → Opens → Type 0
ListAlike es fs = (asked : Option Name) → listed_infos es asked ≡ listed_infos fs asked

-- all prefixes of more than so many entries list the same
abbrev pub ListsAlikeSince : ℕ → ℕ → List Entry → Type 0
ListsAlikeSince limit listing_since front =
    (before : List Entry) → IsPrefix before front → listing_since < length before
    → ListAlike (rows (replay limit before)) (rows (replay limit front))

-- this was listed after a prefix of so many entries
pub record WasListed (limit count : ℕ) (asked : Option Name) (comms : List Info) (front : List Entry) : Type 0 where
  pub before : List Entry
  pub begins : IsPrefix before front
  pub counted : count ≡ length before
  pub lists : comms ≡ listed_infos (rows (replay limit before)) asked

-- what a reader has seen, and of the list that it read last after how many entries and with which filter it was read
pub record ReaderView : Type 0 where
  pub front : List Entry
  pub listed : Option (ℕ × Option Name)

abbrev pub reader_view : List Entry → Option (ℕ × Option Name) → ReaderView
reader_view front listed = record { front = front; listed = listed }

-- the list with this filter was read last, after so many entries
abbrev pub WasListedAfter : ReaderView → (count : ℕ) → (asked : Option Name) → Type 0
WasListedAfter r count asked = r.listed ≡ Some (count, asked)

-- a list was read after so many entries, and lists the same since
abbrev pub IsListedSince : Option ℕ → (listing_since : ℕ) → Type 0
IsListedSince listed_at listing_since = (count : ℕ) × (listed_at ≡ Some count) × (listing_since < count)
