-- The paths that a value lists ascend.
use Rattle.std.proofs.Common.{◌≡◌, ℕ, suc, ◌<◌, List, [], ◌∷◌, ◌++◌, map, true, Less, Equal, sym, ap, ◌∙◌, arith}
use Rattle.std.specs.List.{AllByRecursion}
use Rattle.std.specs.List.Sorted.{IsStrictlySortedBy}
use Rattle.std.specs.Ordering.{nat_cmp, ordering_then}
use Rattle.std.proofs.lemmas.Cmp.{nat_cmp_total, tied_itself}
use Rattle.std.specs.Cmp.{nat_cmp_is}
use Rattle.comm_value.specs.declared.path.Step.{Step}
use Rattle.comm_value.specs.declared.path.Step.TheVariants.{Key, Index}
use Rattle.comm_value.specs.Tree.{Tree, null, boolean, whole, decimal, text, bytes, list, dict, Items, no_items, item, Members, no_members, member}
use Rattle.comm_value.specs.Node.{Path}
use Rattle.comm_value.specs.Order.{key_cmp, is_first, is_ordered, items_ordered, members_ordered}
use Rattle.comm_value.specs.Part.{step_cmp, path_cmp}
use Rattle.comm_value.specs.Places.{paths, item_paths, member_paths}
use Rattle.comm_value.proofs.Keys.{parts, both, is_less, first_trans}
use Rattle.comm_value.proofs.RoundTrip.{same_key}

-- the path begins with a step after s
abbrev pub After : Step → Path → Type 0
After s [] = ⊥
After s (r ∷ p) = step_cmp s r ≡ Less

abbrev pub AllAfter : Step → List Path → Type 0
AllAfter s ps = AllByRecursion (After s) ps

after_append : (s : Step) (ps qs : List Path) → AllAfter s ps → AllAfter s qs → AllAfter s (ps ++ qs)
after_append s [] qs a b = b
after_append s (p ∷ ps) qs a b = (a.0, after_append s ps qs a.1 b)

after_below : (s r : Step) (ps : List Path) → step_cmp s r ≡ Less → AllAfter s (map (λ p. r ∷ p) ps)
after_below s r [] h = tt
after_below s r (p ∷ ps) h = (h, after_below s r ps h)

step_same : (s : Step) → step_cmp s s ≡ Equal
step_same (Key k) = same_key k
step_same (Index n) = tied_itself nat_cmp_total n

index_less : (m n : ℕ) → m < n → nat_cmp m n ≡ Less
index_less m n h = sym (nat_cmp_is m n Less h)

-- ---- one step before all

less_below : (s : Step) (p q : Path) → path_cmp p q ≡ Less → path_cmp (s ∷ p) (s ∷ q) ≡ Less
less_below s p q h = ap (λ o. ordering_then o (path_cmp p q)) (step_same s) ∙ h

less_than_below : (s : Step) (p : Path) (ps : List Path) → AllByRecursion (λ q. path_cmp p q ≡ Less) ps → AllByRecursion (λ q. path_cmp (s ∷ p) q ≡ Less) (map (λ q. s ∷ q) ps)
less_than_below s p [] h = tt
less_than_below s p (q ∷ ps) h = (less_below s p q h.0, less_than_below s p ps h.1)

less_than_after : (s : Step) (p : Path) (ps : List Path) → AllAfter s ps → AllByRecursion (λ q. path_cmp (s ∷ p) q ≡ Less) ps
less_than_after s p [] h = tt
less_than_after s p ([] ∷ ps) h = absurd h.0
less_than_after s p ((r ∷ q) ∷ ps) h = (ap (λ o. ordering_then o (path_cmp p q)) h.0, less_than_after s p ps h.1)

all_append : (P : Path → Type 0) (ps qs : List Path) → AllByRecursion P ps → AllByRecursion P qs → AllByRecursion P (ps ++ qs)
all_append P [] qs a b = b
all_append P (p ∷ ps) qs a b = (a.0, all_append P ps qs a.1 b)

-- paths below one step, and then those that begin with steps after it
sorted_then : (s : Step) (ps qs : List Path) → IsStrictlySortedBy path_cmp ps → IsStrictlySortedBy path_cmp qs → AllAfter s qs → IsStrictlySortedBy path_cmp (map (λ p. s ∷ p) ps ++ qs)
unfolding IsStrictlySortedBy
sorted_then s [] qs a b f = b
sorted_then s (p ∷ ps) qs a b f = (
  all_append (λ q. path_cmp (s ∷ p) q ≡ Less) (map (λ q. s ∷ q) ps) qs (less_than_below s p ps a.0) (less_than_after s p qs f),
  sorted_then s ps qs a.1 b f,
)

-- ---- the whole

items_after : (m n : ℕ) (ts : Items) → m < n → AllAfter (Index m) (item_paths n ts)
items_after m n no_items h = tt
items_after m n (item t ts) h =
    after_append (Index m) (map (λ p. Index n ∷ p) (paths t)) (item_paths (suc n) ts) (after_below (Index m) (Index n) (paths t) (index_less m n h)) (items_after m (suc n) ts (omega arith))

members_after : (k : List ℕ) (ms : Members) → is_first k ms ≡ true → members_ordered ms ≡ true → AllAfter (Key k) (member_paths ms)
members_after k no_members f o = tt
members_after k (member l t ms) f o =
    let less : key_cmp k l ≡ Less = is_less (key_cmp k l) f in
    let p = parts l t ms o in
    after_append (Key k) (map (λ q. Key l ∷ q) (paths t)) (member_paths ms) (after_below (Key k) (Key l) (paths t) less) (members_after k ms (first_trans k l ms less p.first) p.rest)

none_sorted : IsStrictlySortedBy path_cmp []
unfolding IsStrictlySortedBy
none_sorted = tt

one_sorted : (p : Path) → IsStrictlySortedBy path_cmp (p ∷ [])
unfolding IsStrictlySortedBy
one_sorted p = (tt, tt)

mutual
  pub paths_in_order : (t : Tree) → is_ordered t ≡ true → IsStrictlySortedBy path_cmp (paths t)
  paths_in_order null o = none_sorted
  paths_in_order (boolean b) o = none_sorted
  paths_in_order (whole z) o = none_sorted
  paths_in_order (decimal s) o = none_sorted
  paths_in_order (text s) o = none_sorted
  paths_in_order (bytes b) o = one_sorted []
  paths_in_order (list ts) o = items_in_order 0 ts o
  paths_in_order (dict ms) o = members_in_order ms o

  items_in_order : (n : ℕ) (ts : Items) → items_ordered ts ≡ true → IsStrictlySortedBy path_cmp (item_paths n ts)
  items_in_order n no_items o = none_sorted
  items_in_order n (item t ts) o =
      let p = both (is_ordered t) (items_ordered ts) o in
      sorted_then (Index n) (paths t) (item_paths (suc n) ts) (paths_in_order t p.0) (items_in_order (suc n) ts p.1) (items_after n (suc n) ts (omega arith))

  members_in_order : (ms : Members) → members_ordered ms ≡ true → IsStrictlySortedBy path_cmp (member_paths ms)
  members_in_order no_members o = none_sorted
  members_in_order (member k t ms) o =
      let p = parts k t ms o in
      sorted_then (Key k) (paths t) (member_paths ms) (paths_in_order t p.value) (members_in_order ms p.rest) (members_after k ms p.first p.rest)
