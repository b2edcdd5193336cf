-- A script as lines.
use Rattle.std.specs.Prelude.{◌≡◌, ◌⊎◌, ◌++◌, ℕ, List, [], ◌∷◌, Bool, ◌==◌, ◌||◌, if◌then◌else◌}
use Rattle.std.specs.List.{list_all, list_any}

-- b before the first line
abbrev pub before_first : ℕ → List (List ℕ) → List (List ℕ)
before_first b [] = (b ∷ []) ∷ []
before_first b (line ∷ lines) = (b ∷ line) ∷ lines

-- cut at each line feed; what follows the last one is a line if it isn't empty
abbrev pub lines_of : List ℕ → List (List ℕ)
lines_of [] = []
lines_of (b ∷ bytes) = if b == 10 then [] ∷ lines_of bytes else before_first b (lines_of bytes)

-- nothing but spaces, tabs and carriage returns
abbrev pub is_blank : List ℕ → Bool
is_blank line = list_all (λ b. b == 32 || (b == 9 || b == 13)) line

abbrev pub has_line_feed : List ℕ → Bool
has_line_feed bytes = list_any (λ b. b == 10) bytes

-- nothing, or lines that each have their line feed
abbrev pub IsWhole : List ℕ → Type 0
IsWhole bytes = (bytes ≡ []) ⊎ ((before : List ℕ) × (bytes ≡ before ++ 10 ∷ []))
