-- The stock of targets that scripts register.
use Rattle.std.specs.Prelude.{◌≡◌, ◌<◌, ℕ, Bool, true, false, List, [], ◌∷◌, Option, Some, None, if◌then◌else◌, map}
use Rattle.std.specs.Prelude.{length, take, slice_index_or}
use Rattle.std.specs.List.{list_any}
use Rattle.comm_core.specs.Machine.{Registered}
use Rattle.comm_core.specs.Tables.{registered_of}
use Rattle.comm_targets.specs.Meaning.{Meaning, IsIdle}
use Rattle.comm_script.specs.declared.stock.StockKind.{StockKind}
use Rattle.comm_script.specs.declared.stock.StockKind.TheVariants as stock_kind
use Rattle.comm_targets.specs.declared.kind.Kind.{Kind}
use Rattle.comm_targets.specs.declared.kind.Kind.TheVariants.{Echo, Counter, Widget, WidgetEcho}

abbrev pub has_kind : StockKind → Kind → Bool
has_kind stock_kind.Echo Echo = true
has_kind stock_kind.Counter Counter = true
has_kind stock_kind.Widget Widget = true
has_kind stock_kind.WidgetEcho WidgetEcho = true
has_kind w k = false

-- the first target of the kind
abbrev pub first_of : StockKind → List Registered → Option Registered
first_of k [] = None
first_of k (r ∷ rs) = if has_kind k r.kind then Some r else first_of k rs

-- the others, in their order
abbrev pub rest_of : StockKind → List Registered → List Registered
rest_of k [] = []
rest_of k (r ∷ rs) = if has_kind k r.kind then rs else r ∷ rest_of k rs

abbrev pub AreIdle : List Meaning → Type 0
AreIdle [] = Unit {0}
AreIdle (m ∷ ms) = IsIdle m × AreIdle ms

-- the targets that are left, and how many more fit with no memory
pub record Shelf : Type 0 where
  pub targets : List Registered
  pub room : ℕ

-- what idle targets tell of themselves
abbrev pub shelved : List Meaning → List Registered
shelved ms = map registered_of ms

-- ---- for private clauses

-- no target has the kind
abbrev pub IsWithout : {A : Type 0} → (A → Meaning) → StockKind → List A → Type 0
IsWithout means w ts = list_any (λ t. has_kind w (means t).kind) ts ≡ false

-- the first target of the kind stands at i
pub record IsPlace {A : Type 0} (means : A → Meaning) (w : StockKind) (ts : List A) (i : ℕ) : Type 0 where
  pub within : i < length ts
  pub first : IsWithout means w (take i ts)
  pub here : (t : A) → has_kind w (means (slice_index_or ts i t)).kind ≡ true
