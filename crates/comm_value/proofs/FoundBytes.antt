-- A value has bytes exactly where it has a place.
use Rattle.std.proofs.Common.{◌≡◌, ◌↔◌, ℕ, suc, List, [], ◌∷◌, ◌++◌, map, Bool, true, false, IsTrue, refl, sym, ap, ◌∙◌, arith}
use Rattle.std.specs.Prelude.{◌||◌}
use Rattle.std.specs.List.{Contains}
use Rattle.comm_value.specs.declared.path.Step.{Step}
use Rattle.comm_value.specs.declared.path.Step.TheVariants.{Key, Index}
use Rattle.comm_value.specs.Tree.{Tree, null, boolean, whole, decimal, text, bytes, list, dict, Items, no_items, item, Members, no_members, member}
use Rattle.comm_value.specs.Node.{Path}
use Rattle.comm_value.specs.Order.{is_ordered}
use Rattle.comm_value.specs.Places.{IsPlace, has_bytes, items_have_bytes, members_have_bytes, paths, item_paths, member_paths}
use Rattle.comm_value.proofs.PlaceLaws.{listed_is_place, place_is_listed}

abbrev some_path : List Path → Bool
some_path [] = false
some_path (p ∷ ps) = true

some_below : (s : Step) (ps qs : List Path) → some_path (map (λ p. s ∷ p) ps ++ qs) ≡ (some_path ps || some_path qs)
some_below s [] qs = refl
some_below s (p ∷ ps) qs = refl

mutual
  some_listed : (t : Tree) → has_bytes t ≡ some_path (paths t)
  some_listed null = refl
  some_listed (boolean b) = refl
  some_listed (whole z) = refl
  some_listed (decimal s) = refl
  some_listed (text s) = refl
  some_listed (bytes b) = refl
  some_listed (list ts) = some_in_list 0 ts
  some_listed (dict ms) = some_in_dict ms

  some_in_list : (n : ℕ) (ts : Items) → items_have_bytes ts ≡ some_path (item_paths n ts)
  some_in_list n no_items = refl
  some_in_list n (item t ts) =
      ap (λ b. b || items_have_bytes ts) (some_listed t) ∙ ap (λ b. some_path (paths t) || b) (some_in_list (suc n) ts) ∙ sym (some_below (Index n) (paths t) (item_paths (suc n) ts))

  some_in_dict : (ms : Members) → members_have_bytes ms ≡ some_path (member_paths ms)
  some_in_dict no_members = refl
  some_in_dict (member k t ms) =
      ap (λ b. b || members_have_bytes ms) (some_listed t) ∙ ap (λ b. some_path (paths t) || b) (some_in_dict ms) ∙ sym (some_below (Key k) (paths t) (member_paths ms))

a_path : (ps : List Path) → some_path ps ≡ true → (p : Path) × Contains ps p
a_path [] h = cc
a_path (p ∷ ps) h = (p, (0, omega arith, refl))

has_path : (ps : List Path) (p : Path) → Contains ps p → some_path ps ≡ true
has_path [] p c = absurd (omega (arith, c.1))
has_path (q ∷ ps) p c = refl

pub found : (t : Tree) → is_ordered t ≡ true → IsTrue (has_bytes t) ↔ ((p : Path) × IsPlace t p)
found t o = (
  λ h. let c = a_path (paths t) (sym (some_listed t) ∙ h) in (c.0, listed_is_place t c.0 o c.1),
  λ c. some_listed t ∙ has_path (paths t) c.0 (place_is_listed t c.0 c.1),
)
