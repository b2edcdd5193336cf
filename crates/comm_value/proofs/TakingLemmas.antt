-- A child that was taken out leaves a place in which another can be put.
use Rattle.std.proofs.Common.{◌≡◌, ℕ, zero, suc, List, [], ◌∷◌, set, Ordering, Less, Equal, Greater, refl, ap}
use Rattle.std.specs.Prelude.{option_map}
use Rattle.std.specs.Ordering.{match_ordering}
use Rattle.comm_value.specs.declared.val.Val.{Val}
use Rattle.comm_value.specs.Tree.{Tree, item, Members, no_members, member}
use Rattle.comm_value.specs.View.{tree, items_of}
use Rattle.comm_value.specs.Order.{key_cmp}
use Rattle.comm_value.specs.Put.{insert, replace}
use Rattle.comm_value.proofs.RoundTrip.{same_key}

again_case : (k : List ℕ) (u t : Tree) (l : List ℕ) (v : Tree) (ms : Members) (o : Ordering) → key_cmp k l ≡ o → insert k t (insert k u ms) ≡ insert k t ms
    → insert k t (match_ordering o (member k u (member l v ms)) (member k u ms) (member l v (insert k u ms))) ≡ match_ordering o (member k t (member l v ms)) (member k t ms) (member l v (insert k t ms))
again_case k u t l v ms Less e h = let same : key_cmp k k ≡ Equal = same_key k in rw same refl
again_case k u t l v ms Equal e h = let same : key_cmp k k ≡ Equal = same_key k in rw same refl
again_case k u t l v ms Greater e h = rw e (ap (member l v) h)

pub insert_again : (k : List ℕ) (u t : Tree) (ms : Members) → insert k t (insert k u ms) ≡ insert k t ms
insert_again k u t no_members = let same : key_cmp k k ≡ Equal = same_key k in rw same refl
insert_again k u t (member l v ms) = again_case k u t l v ms (key_cmp k l) refl (insert_again k u t ms)

pub replace_again : (xs : List Val) (i : ℕ) (v : Val) (t : Tree) → replace i t (items_of (set xs i v)) ≡ replace i t (items_of xs)
replace_again [] i v t = refl
replace_again (y ∷ xs) zero v t = refl
replace_again (y ∷ xs) (suc i) v t = ap (option_map (item (tree y))) (replace_again xs i v t)
