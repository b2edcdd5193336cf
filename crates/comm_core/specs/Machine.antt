-- What a comm manager holds: 'comms by id and targets by name', as ipykernel's comm manager does.
use Rattle.std.specs.Prelude.{◌≡◌, ℕ, Bool, true, not, List, [], ◌∷◌, Option, None, Some, is_some, filter}
use Rattle.std.specs.Str.{bytes_eq}
use Rattle.std.specs.Map.{lookup, remove_entry, set_value, keys_of}
use Rattle.comm_targets.specs.declared.kind.Kind.{Kind}
use Rattle.comm_core.specs.declared.comm.Comm.{Comm}

-- a text by its bytes
abbrev pub Name : Type 0
Name = List ℕ

-- what a target tells of itself
pub record Registered : Type 0 where
  pub kind : Kind
  pub notes : ℕ

-- Two finite maps (after a legal history each key stands once): the targets in the order of registration, the comms
-- in the order of opening.
pub record Machine : Type 0 where
  pub targets : List (Name × Registered)
  pub comms : List (Name × Comm)

abbrev pub empty : Machine
empty = record { targets = []; comms = [] }

-- ---- finite maps

abbrev pub at : {X : Type 0} → List (Name × X) → Name → Option X
at es key = lookup (bytes_eq key) es

abbrev pub has : {X : Type 0} → List (Name × X) → Name → Bool
has es key = is_some (at es key)

abbrev pub without : {X : Type 0} → List (Name × X) → Name → List (Name × X)
without es key = remove_entry (bytes_eq key) es

-- another value at a key that is there
abbrev pub with_at : {X : Type 0} → List (Name × X) → Name → X → List (Name × X)
with_at es key x = set_value (bytes_eq key) es x

-- no two keys are equal
abbrev pub AreDistinct : {X : Type 0} → List (Name × X) → Type 0
AreDistinct [] = Unit {0}
AreDistinct (e ∷ es) = (at es e.0 ≡ None) × AreDistinct es

-- no name and no id stands twice, and each comm's target is there
pub record IsConsistent (m : Machine) : Type 0 where
  pub names : AreDistinct m.targets
  pub ids : AreDistinct m.comms
  pub registered : (id : Name) (c : Comm) → at m.comms id ≡ Some c → has m.targets c.target ≡ true

-- ---- the comms of a target

-- their ids, in the order of opening
abbrev pub ids_of : Name → List (Name × Comm) → List Name
ids_of name comms = keys_of (filter (λ e. bytes_eq name e.1.target) comms)

-- the comms of the other targets
abbrev pub others : Name → List (Name × Comm) → List (Name × Comm)
others name comms = filter (λ e. not (bytes_eq name e.1.target)) comms
