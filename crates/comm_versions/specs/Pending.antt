-- What the writer has prepared, and what showing it asks for.
use Rattle.std.specs.Prelude.{◌≡◌, ℕ, false, List, [], ◌∷◌, ◌++◌, map}
use Rattle.std.specs.Arc.{arc_value}
use mathlib.Core.List.{IsPrefix}
use Rattle.comm_core.specs.History.{replay}
use Rattle.comm_core.specs.Row.{rows}
use Rattle.comm_core.specs.declared.entry.Entry.{Entry}
use Rattle.comm_versions.specs.Known.{Known}
use Rattle.comm_versions.specs.Listing.{ListAlike}
use Rattle.comm_versions.specs.declared.version.Version.{Version}
use Rattle.comm_versions.specs.declared.adding.PendingEntry.{PendingEntry}

-- one version waits, of the same history, and the front that is shown is a prefix of its front
pub record CanShow (k : Known) (ops : List Version) : Type 0 where
  pub op : Version
  pub alone : ops ≡ op ∷ []
  pub origin : op.front.origin ≡ k.origin
  pub later : IsPrefix k.entries op.front.entries

abbrev pub last_front : Known → List Version → Known
last_front k [] = k
last_front k (op ∷ ops) = last_front op.front ops

abbrev pub entry_in : PendingEntry → Entry
entry_in s = arc_value s.entry

-- the entries that are pending
abbrev pub entries_in : List PendingEntry → List Entry
entries_in steps = map entry_in steps

-- its table is that after its entry, and lists other comms than before only where it says so
pub record FollowsFront (limit : ℕ) (front : List Entry) (s : PendingEntry) : Type 0 where
  pub root : arc_value s.root ≡ rows (replay limit (front ++ entry_in s ∷ []))
  pub lists : s.changes_listing ≡ false → ListAlike (rows (replay limit front)) (arc_value s.root)

-- each is the next after those before it
abbrev pub FollowInOrder : ℕ → List Entry → List PendingEntry → Type 0
FollowInOrder limit front [] = Unit {0}
FollowInOrder limit front (s ∷ ss) =
    FollowsFront limit front s × FollowInOrder limit (front ++ entry_in s ∷ []) ss
