-- What a table stands for: its places, and the entries at them.
use Rattle.std.specs.Prelude.{◌≡◌, ◌≤◌, ◌+◌, ◌*◌, ℕ, Bool, false, length, List, [], ◌∷◌, Option, None, Some, refl}
use Rattle.std.specs.Borrow.{Bor}
use Rattle.std.specs.List.{IsDistinct}
use Rattle.std.specs.Map.{keys_of}
use Rattle.std.specs.Option.{option_map_or}
use Rattle.std.specs.Coded.{Coded, code_by, coded×, coded_ℕ, coded_list, coded_option}

-- the keys in the order of insertion, each with its value, or with none where the place is a gap;
-- and how many more entries fit without an allocation
pub record Places (K V : Type 0) : Type 0 where
  pub places : List (K × Option V)
  pub room : ℕ

abbrev pub places_code : {K V : Type 0} → Coded K → Coded V → Coded (Places K V)
places_code {K} {V} k v =
    code_by (List (K × Option V) × ℕ) (coded× (coded_list (coded× k (coded_option v))) coded_ℕ)
    (λ t. (t.places, t.room)) (λ p. record { places = p.0; room = p.1 }) (λ _. refl)

module _ {K V : Type 0} where
  -- an entry before others, if the place isn't a gap
  abbrev pub entry_before : K → Option V → List (K × V) → List (K × V)
  entry_before k None es = es
  entry_before k (Some v) es = (k, v) ∷ es

  -- the entries at these places
  abbrev pub there : List (K × Option V) → List (K × V)
  there [] = []
  there (p ∷ ps) = entry_before p.0 p.1 (there ps)

  -- the entries in the order of insertion
  abbrev pub entries : Places K V → List (K × V)
  entries t = there t.places

  -- each call gives what the test gives
  abbrev pub Computes : (Bor K → Bor V → Bool → Type 0) → (K × V → Bool) → Type 0
  Computes post test = (k : Bor K) (v : Bor V) (b : Bool) → post k v b → b ≡ test (k.now, v.now)

  -- a gap fails each test
  abbrev pub at_place : (K × V → Bool) → K × Option V → Bool
  at_place test p = option_map_or (λ v. test (p.0, v)) p.1 false

-- at most about half of the places are gaps
abbrev pub HasFewGaps : {K V : Type 0} → List (K × Option V) → Type 0
HasFewGaps places = length places ≤ 2 * length (there places) + 1

-- the invariant of a table: its count is the number of entries, few places are gaps, and each key has one place
pub record IsKept {K V : Type 0} (eq : K → K → Bool) (live : ℕ) (places : List (K × Option V)) : Type 0 where
  pub count : live ≡ length (there places)
  pub few : HasFewGaps places
  pub unique : IsDistinct eq (keys_of places)
