-- The rule over the versions: each seat has seen a prefix of the front that is shown.
use Rattle.std.specs.Prelude.{ℕ, ◌≡◌, Bool, true, false, List, []}
use mathlib.Core.List.{IsPrefix}
use mathlib.Core.Option.{some}
use lib.ListN.{get_elem?}
use Rattle.comm_versions.specs.Known.{Known, known, origin}

abbrev pub SeatView : Type 0
SeatView = Bool × Known

-- the view of a seat that knows nothing yet
abbrev pub stranger : SeatView
stranger = (false, known (origin (record { number = 0; log_name = 0; cells_name = 0 }) 0 0) [])

-- a seat that knows something has seen a prefix of this
abbrev pub Knows : Known → SeatView → Type 0
Knows x v = v.0 ≡ true → (v.1.origin ≡ x.origin) × IsPrefix v.1.entries x.entries

abbrev pub IsShown : Known → List SeatView → Type 0
IsShown x views = (seat : ℕ) (v : SeatView) → get_elem? views seat ≡ some v → Knows x v
