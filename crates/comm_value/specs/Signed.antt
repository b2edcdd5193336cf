-- For proofs: an integer as its sign and its distance from 0, or from -1 downwards.
use Rattle.std.specs.Prelude.{◌≡◌, refl, ℕ, ℤ, pos, negsuc, Bool, true, false}

abbrev pub signed : Bool → ℕ → ℤ
signed false n = pos n
signed true n = negsuc n

abbrev pub distance_of : ℤ → ℕ
distance_of (pos n) = n
distance_of (negsuc n) = n

abbrev pub is_below : ℤ → Bool
is_below (pos n) = false
is_below (negsuc n) = true

pub distance_back : (b : Bool) (n : ℕ) → distance_of (signed b n) ≡ n
distance_back false n = refl
distance_back true n = refl

pub below_back : (b : Bool) (n : ℕ) → is_below (signed b n) ≡ b
below_back false n = refl
below_back true n = refl
