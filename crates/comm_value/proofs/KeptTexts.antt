-- Kept texts stay short.
use Rattle.std.proofs.Common.{◌≤◌, ℕ, zero, suc, List, [], ◌∷◌, ◌++◌, length, slice_set}
use Rattle.comm_value.specs.KnownTexts.{AreShort}

pub short_push : (texts : List (List ℕ)) (t : List ℕ) → AreShort texts → length t ≤ 40 → AreShort (texts ++ t ∷ [])
short_push [] t all h = (h, tt)
short_push (x ∷ texts) t all h = (all.0, short_push texts t all.1 h)

pub short_set : (texts : List (List ℕ)) (i : ℕ) (t : List ℕ) → AreShort texts → length t ≤ 40 → AreShort (slice_set texts i t)
short_set [] i t all h = tt
short_set (x ∷ texts) zero t all h = (h, all.1)
short_set (x ∷ texts) (suc i) t all h = (all.0, short_set texts i t all.1 h)
