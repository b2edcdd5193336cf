-- A key sought, and a member put, in one chunk of a dict.
use Rattle.std.proofs.Common.{◌≡◌, ℕ, suc, ◌<◌, ◌+◌, List, [], ◌∷◌, ◌++◌, length, get_or, take, drop, Ordering, Less, Equal, Greater, true, refl, sym, ap, ◌∙◌, arith, subst, add-one}
use Rattle.std.specs.Prelude.{Some, if◌then◌else◌}
use Rattle.std.specs.Ordering.{is_eq, match_ordering}
use Rattle.std.specs.Arc.{arc_value}
use Rattle.comm_value.specs.declared.val.Member.{Member}
use Rattle.comm_value.specs.Tree.{Tree, Members, member}
use Rattle.comm_value.specs.declared.val.Group.{Group}
use Rattle.comm_value.specs.View.{tree, members_of, Chunk, grouped, flat}
use Rattle.comm_value.specs.Order.{key_cmp, is_first, members_ordered}
use Rattle.comm_value.specs.Node.{get}
use Rattle.comm_value.specs.Put.{insert}
use Rattle.comm_value.specs.Search.{AllBelow, IsAbsent}
use Rattle.comm_value.proofs.Keys.{flip_greater, flip_less, key_trans, key_same, is_less, parts, whole, none_first}
use Rattle.comm_value.proofs.SearchLemmas.{first_absent}
use Rattle.comm_value.proofs.MergeLemmas.{join, join_lists}
use Rattle.comm_value.proofs.Shared.{member_of}
use Rattle.comm_value.proofs.Flat.{opened, flat_cut, take_rest, drop_rest}

-- ---- parts of what is in order

pub ordered_right : (xs ys : List Member) → members_ordered (members_of (xs ++ ys)) ≡ true → members_ordered (members_of ys) ≡ true
ordered_right [] ys o = o
ordered_right (x ∷ xs) ys o = ordered_right xs ys (parts x.key (tree x.value) (members_of (xs ++ ys)) o).rest

first_left : (k : List ℕ) (xs ys : List Member) → is_first k (members_of (xs ++ ys)) ≡ true → is_first k (members_of xs) ≡ true
first_left k [] ys f = refl
first_left k (x ∷ xs) ys f = f

pub ordered_left : (xs ys : List Member) → members_ordered (members_of (xs ++ ys)) ≡ true → members_ordered (members_of xs) ≡ true
ordered_left [] ys o = refl
ordered_left (x ∷ xs) ys o =
    let p = parts x.key (tree x.value) (members_of (xs ++ ys)) o in
    whole x.key (tree x.value) (members_of xs) (first_left x.key xs ys p.first) p.value (ordered_left xs ys p.rest)

-- ---- the chunk of a key

above_first : (k : List ℕ) (xs : List Member) (y : Member) (zs : List Member) → is_first k (members_of (xs ++ y ∷ zs)) ≡ true → members_ordered (members_of (xs ++ y ∷ zs)) ≡ true → key_cmp k y.key ≡ Less
above_first k [] y zs f o = is_less (key_cmp k y.key) f
above_first k (x ∷ xs) y zs f o =
    let p = parts x.key (tree x.value) (members_of (xs ++ y ∷ zs)) o in
    key_trans k x.key y.key (is_less (key_cmp k x.key) f) (above_first x.key xs y zs p.first p.rest)

above_all : (k x y : List ℕ) (o : Ordering) → key_cmp k y ≡ o → (o ≡ Less → ⊥) → key_cmp x y ≡ Less → key_cmp k x ≡ Greater
above_all k x y Less e h less = absurd (h refl)
above_all k x y Equal e h less = key_same k y x e ∙ flip_less x y less
above_all k x y Greater e h less = flip_less x k (key_trans x y k less (flip_greater k y e))

-- a key that isn't below this member is above those before it
pub below_front : (k : List ℕ) (xs : List Member) (y : Member) (zs : List Member) → members_ordered (members_of (xs ++ y ∷ zs)) ≡ true → (key_cmp k y.key ≡ Less → ⊥) → AllBelow k xs
below_front k [] y zs o h = tt
below_front k (x ∷ xs) y zs o h =
    let p = parts x.key (tree x.value) (members_of (xs ++ y ∷ zs)) o in (
      above_all k x.key y.key (key_cmp k y.key) refl h (above_first x.key xs y zs p.first p.rest),
      below_front k xs y zs p.rest h,
    )

first_of : (xs : List Member) (x : Member) → 0 < length xs → x ≡ get_or xs 0 x → xs ≡ x ∷ drop 1 xs
first_of [] x h is = absurd (omega arith)
first_of (y ∷ ys) x h is = ap (λ (z : Member). z ∷ ys) (sym is)

-- the members from chunk i on, the first of which is x
from_first : (ps : List Chunk) (i : ℕ) (p : Chunk) (v : Group) (xs : List Member) (x : Member) → i < length ps → p ≡ get_or ps i p → v ≡ arc_value p → xs ≡ grouped v → 0 < length xs → x ≡ get_or xs 0 x
    → flat (drop i ps) ≡ x ∷ (drop 1 xs ++ flat (drop (i + 1) ps))
from_first ps i p v xs x h is deref items some here = opened ps i p v xs h is deref items ∙ ap (λ l. l ++ flat (drop (i + 1) ps)) (first_of xs x some here)

pub absent_from : (k : List ℕ) (ps : List Chunk) (i : ℕ) (p : Chunk) (v : Group) (xs : List Member) (x : Member) → i < length ps → p ≡ get_or ps i p → v ≡ arc_value p → xs ≡ grouped v → 0 < length xs → x ≡ get_or xs 0 x
    → key_cmp k x.key ≡ Less → IsAbsent k (flat (drop i ps))
absent_from k ps i p v xs x h is deref items some here less = subst (IsAbsent k) (sym (from_first ps i p v xs x h is deref items some here)) less

pub below_from : (k : List ℕ) (ps : List Chunk) (i : ℕ) (p : Chunk) (v : Group) (xs : List Member) (x : Member) → i < length ps → p ≡ get_or ps i p → v ≡ arc_value p → xs ≡ grouped v → 0 < length xs → x ≡ get_or xs 0 x
    → members_ordered (members_of (flat ps)) ≡ true → (key_cmp k x.key ≡ Less → ⊥) → AllBelow k (flat (take i ps))
below_from k ps i p v xs x h is deref items some here o more =
    let cut : flat ps ≡ flat (take i ps) ++ x ∷ (drop 1 xs ++ flat (drop (i + 1) ps)) = flat_cut ps i ∙ ap (λ l. flat (take i ps) ++ l) (from_first ps i p v xs x h is deref items some here) in
    below_front k (flat (take i ps)) x (drop 1 xs ++ flat (drop (i + 1) ps)) (ap (λ l. members_ordered (members_of l)) (sym cut) ∙ o) more

-- ---- a dict around a chunk

pub around : (ps : List Chunk) (i : ℕ) (p : Chunk) (v : Group) (xs : List Member) → i < length ps → p ≡ get_or ps i p → v ≡ arc_value p → xs ≡ grouped v → flat ps ≡ flat (take i ps) ++ (xs ++ flat (drop (i + 1) ps))
around ps i p v xs h is deref items = flat_cut ps i ∙ ap (λ l. flat (take i ps) ++ l) (opened ps i p v xs h is deref items)

pub ordered_chunk : (ms before xs after : List Member) → ms ≡ before ++ (xs ++ after) → members_ordered (members_of ms) ≡ true → members_ordered (members_of xs) ≡ true
ordered_chunk ms before xs after cut o = ordered_left xs after (ordered_right before (xs ++ after) (ap (λ l. members_ordered (members_of l)) (sym cut) ∙ o))

get_past : (k : List ℕ) (xs ys : List Member) → AllBelow k xs → get k (members_of (xs ++ ys)) ≡ get k (members_of ys)
get_past k [] ys b = refl
get_past k (x ∷ xs) ys b = rw b.0 (get_past k xs ys b.1)

get_before : (k : List ℕ) (xs ys : List Member) → IsAbsent k ys → members_ordered (members_of ys) ≡ true → get k (members_of (xs ++ ys)) ≡ get k (members_of xs)
get_before k [] ys a o = none_first k (members_of ys) (first_absent k ys a) o
get_before k (x ∷ xs) ys a o = ap (λ g. if is_eq (key_cmp k x.key) then Some (tree x.value) else g) (get_before k xs ys a o)

pub get_chunk : (k : List ℕ) (ms before xs after : List Member) (all : Members) → ms ≡ before ++ (xs ++ after) → members_of ms ≡ all → members_ordered all ≡ true → AllBelow k before → IsAbsent k after → get k (members_of xs) ≡ get k all
get_chunk k ms before xs after all cut view o b a =
    let order : members_ordered (members_of (before ++ (xs ++ after))) ≡ true = ap (λ l. members_ordered (members_of l)) (sym cut) ∙ ap members_ordered view ∙ o in
    sym (get_past k before (xs ++ after) b ∙ get_before k xs after a (ordered_right xs after (ordered_right before (xs ++ after) order))) ∙ ap (λ l. get k (members_of l)) (sym cut) ∙ ap (get k) view

insert_first : (k : List ℕ) (t : Tree) (ys : List Member) → IsAbsent k ys → insert k t (members_of ys) ≡ member k t (members_of ys)
insert_first k t [] a = refl
insert_first k t (y ∷ ys) a = rw a refl

insert_case : (k : List ℕ) (t : Tree) (x : Member) (xs ys : List Member) (o : Ordering) → insert k t (members_of (xs ++ ys)) ≡ join (insert k t (members_of xs)) (members_of ys)
    → match_ordering o (member k t (member_of x (members_of (xs ++ ys)))) (member k t (members_of (xs ++ ys))) (member_of x (insert k t (members_of (xs ++ ys))))
    ≡ join (match_ordering o (member k t (member_of x (members_of xs))) (member k t (members_of xs)) (member_of x (insert k t (members_of xs)))) (members_of ys)
insert_case k t x xs ys Less h = ap (λ ms. member k t (member_of x ms)) (join_lists xs ys)
insert_case k t x xs ys Equal h = ap (λ ms. member k t ms) (join_lists xs ys)
insert_case k t x xs ys Greater h = ap (member_of x) h

insert_before : (k : List ℕ) (t : Tree) (xs ys : List Member) → IsAbsent k ys → insert k t (members_of (xs ++ ys)) ≡ join (insert k t (members_of xs)) (members_of ys)
insert_before k t [] ys a = insert_first k t ys a
insert_before k t (x ∷ xs) ys a = insert_case k t x xs ys (key_cmp k x.key) (insert_before k t xs ys a)

insert_past : (k : List ℕ) (t : Tree) (xs ys : List Member) → AllBelow k xs → insert k t (members_of (xs ++ ys)) ≡ join (members_of xs) (insert k t (members_of ys))
insert_past k t [] ys b = refl
insert_past k t (x ∷ xs) ys b = rw b.0 (ap (member_of x) (insert_past k t xs ys b.1))

-- a chunk in which the member was put, among the others
pub insert_chunk : (k : List ℕ) (t : Tree) (ms before xs after put new : List Member) → ms ≡ before ++ (xs ++ after) → AllBelow k before → IsAbsent k after
    → members_of put ≡ insert k t (members_of xs) → new ≡ before ++ (put ++ after) → members_of new ≡ insert k t (members_of ms)
insert_chunk k t ms before xs after put new cut b a done is =
    ap members_of is ∙ join_lists before (put ++ after) ∙ ap (join (members_of before)) (join_lists put after ∙ ap (λ l. join l (members_of after)) done ∙ sym (insert_before k t xs after a))
    ∙ sym (insert_past k t before (xs ++ after) b) ∙ ap (λ l. insert k t (members_of l)) (sym cut)

-- the chunk was taken out, changed and let in again
pub put_back : (ps slice rest : List Chunk) (i : ℕ) (q : Chunk) (s : List ℕ) (m : Member) (members changed new : List Member) → i < length ps → slice ≡ ps → s ≡ m.key → q ≡ get_or ps i q → rest ≡ take i ps ++ drop (suc i) ps
    → AllBelow s (flat (take i slice)) → IsAbsent s (flat (drop (i + 1) slice)) → members ≡ grouped (arc_value q) → members_of changed ≡ insert m.key (tree m.value) (members_of members)
    → new ≡ flat (take i rest) ++ (changed ++ flat (drop i rest)) → members_of new ≡ insert m.key (tree m.value) (members_of (flat ps))
put_back ps slice rest i q s m members changed new h same key is out below above own done made =
    let b : AllBelow m.key (flat (take i ps)) = rw (same, key) at below in
    let a : IsAbsent m.key (flat (drop (i + 1) ps)) = rw (same, key) at above in
    let after : flat (drop i rest) ≡ flat (drop (i + 1) ps) = ap (λ l. flat (drop i l)) out ∙ ap flat (drop_rest ps i h) ∙ ap (λ n. flat (drop n ps)) (sym (add-one i)) in
    insert_chunk m.key (tree m.value) (flat ps) (flat (take i ps)) members (flat (drop (i + 1) ps)) changed new (around ps i q (arc_value q) members h is refl own) b a done
    (made ∙ ap (λ l. flat l ++ (changed ++ flat (drop i rest))) (ap (take i) out ∙ take_rest ps i h) ∙ ap (λ l. flat (take i ps) ++ (changed ++ l)) after)
