-- How many members a dict has after an insert.
use Rattle.std.proofs.Common.{◌≡◌, ℕ, suc, List, length, cond, Ordering, Less, Equal, Greater, true, refl, sym, ap, ◌∙◌}
use Rattle.std.specs.Prelude.{Some, None}
use Rattle.std.specs.Ordering.{is_eq, is_lt, match_ordering}
use Rattle.comm_value.specs.Tree.{Tree, Members, no_members, member}
use Rattle.comm_value.specs.Node.{get, keys}
use Rattle.comm_value.specs.Order.{key_cmp, members_ordered}
use Rattle.comm_value.specs.Put.{insert}
use Rattle.comm_value.proofs.Keys.{none_first, parts}

there_case : (k : List ℕ) (t v : Tree) (l : List ℕ) (u : Tree) (ms : Members) (o : Ordering) → key_cmp k l ≡ o → members_ordered (member l u ms) ≡ true → get k (member l u ms) ≡ Some v
    → (get k ms ≡ Some v → length (keys (insert k t ms)) ≡ length (keys ms))
    → length (keys (match_ordering o (member k t (member l u ms)) (member k t ms) (member l u (insert k t ms)))) ≡ suc (length (keys ms))
there_case k t v l u ms Less e order there more =
    let none = none_first k (member l u ms) (ap is_lt e) order in
    absurd cc
there_case k t v l u ms Equal e order there more = refl
there_case k t v l u ms Greater e order there more = ap suc (more (sym (ap (λ (o : Ordering). cond (is_eq o) (Some u) (get k ms)) e) ∙ there))

-- one that takes the place of another
pub len_there : (k : List ℕ) (t v : Tree) (ms : Members) → members_ordered ms ≡ true → get k ms ≡ Some v → length (keys (insert k t ms)) ≡ length (keys ms)
len_there k t v no_members order there = absurd cc
len_there k t v (member l u ms) order there = there_case k t v l u ms (key_cmp k l) refl order there (len_there k t v ms (parts l u ms order).rest)

absent_case : (k : List ℕ) (t : Tree) (l : List ℕ) (u : Tree) (ms : Members) (o : Ordering) → key_cmp k l ≡ o → get k (member l u ms) ≡ None → (get k ms ≡ None → length (keys (insert k t ms)) ≡ suc (length (keys ms)))
    → length (keys (match_ordering o (member k t (member l u ms)) (member k t ms) (member l u (insert k t ms)))) ≡ suc (suc (length (keys ms)))
absent_case k t l u ms Less e absent more = refl
absent_case k t l u ms Equal e absent more =
    let there = sym (ap (λ (o : Ordering). cond (is_eq o) (Some u) (get k ms)) e) ∙ absent in
    absurd cc
absent_case k t l u ms Greater e absent more = ap suc (more (sym (ap (λ (o : Ordering). cond (is_eq o) (Some u) (get k ms)) e) ∙ absent))

-- one more
pub len_absent : (k : List ℕ) (t : Tree) (ms : Members) → get k ms ≡ None → length (keys (insert k t ms)) ≡ suc (length (keys ms))
len_absent k t no_members absent = refl
len_absent k t (member l u ms) absent = absent_case k t l u ms (key_cmp k l) refl absent (len_absent k t ms)
