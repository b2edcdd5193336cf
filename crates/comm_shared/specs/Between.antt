-- What is true of a manager between two changes.
use Rattle.std.specs.Prelude.{ℕ, ◌≡◌, ◌<◌, ◌≤◌, false, List, length, slice_index}
use Rattle.comm_core.specs.History.{IsLegal, has_end, mine}
use Rattle.comm_core.specs.Ready.{CoreValue}
use Rattle.comm_core.specs.declared.entry.Entry.{Entry}
use Rattle.comm_versions.specs.Asked.{Rests}
use Rattle.comm_versions.specs.Known.{Known}
use Rattle.comm_shared.specs.SharedView.{most_changes, seats}

-- for each seat how many entries of the history are its client's
pub record AreCounts (totals : List ℕ) (history : List Entry) : Type 0 where
  pub all : length totals ≡ seats
  pub each : (c : ℕ) → c < seats → slice_index totals c ≡ length (mine history c)

-- The history is legal and not ended; the tables rest after it; the totals are those of its clients.
pub record Stands (k : Known) (core : CoreValue) (totals : List ℕ) : Type 0 where
  pub legal : IsLegal k.origin.clients k.origin.limit k.entries
  pub going : has_end k.entries ≡ false
  pub clients_are : k.origin.clients ≡ seats
  pub rests : Rests k.origin.limit k.entries core
  pub totals_are : AreCounts totals k.entries
  pub few : length k.entries ≤ most_changes
