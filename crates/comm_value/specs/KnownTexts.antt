-- Texts that were met before, and are kept.
use Rattle.std.specs.Prelude.{ℕ, ◌≤◌, List, length}
use Rattle.std.specs.List.{AllByRecursion}

-- each has at most 40 bytes
abbrev pub AreShort : List (List ℕ) → Type 0
AreShort texts = AllByRecursion (λ t. length t ≤ 40) texts

-- there are at most 2,048
abbrev pub AreFewAndShort : List (List ℕ) → Type 0
AreFewAndShort texts = (length texts ≤ 2048) × AreShort texts
