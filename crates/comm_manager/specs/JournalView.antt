-- What contracts see of the history.
use Rattle.std.specs.Prelude.{◌≡◌, Bool, List, Option, IfSome, is_some, refl}
use Rattle.std.specs.Arc.{arc_value}
use Rattle.std.specs.Coded.{Coded, code_by, coded×, coded_bool}
use Rattle.std.specs.declared.sync.Arc.{Arc}
use Rattle.comm_core.specs.declared.entry.Entry.{Entry}
use Rattle.comm_versions.specs.Code.{entries_code}

-- its entries, and whether there is room for one more
pub record JournalView : Type 0 where
  pub all : List Entry
  pub room : Bool

abbrev pub journal_view : List Entry → Bool → JournalView
journal_view all room = record { all = all; room = room }

abbrev pub journal_code : Coded JournalView
journal_code =
    code_by (List Entry × Bool) (coded× entries_code coded_bool) (λ j. (j.all, j.room))
    (λ p. record { all = p.0; room = p.1 }) (λ _. refl)

-- what a history keeps of this entry: the entry itself, or nothing where it keeps none
abbrev pub IsShare : {Z : Type 0} → Bool → Option (Arc Entry Z) → Entry → Type 0
IsShare keeps share entry = (is_some share ≡ keeps) × IfSome share (λ s. arc_value s ≡ entry)
