-- Comms in the byte order of their ids: where an id stands, and a comm that is put there or taken out.
use Rattle.std.proofs.Common.{◌≡◌, ℕ, zero, suc, ◌<◌, ◌≤◌, true, false, cond, List, [], ◌∷◌, ◌++◌, length, get_or, take, drop, Option, None, Some, Ordering, Less, Equal, Greater, refl, sym, ap, ◌∙◌, arith, subst}
use Rattle.std.specs.Str.{bytes_eq}
use Rattle.std.specs.List.{AllByRecursion}
use Rattle.std.specs.List.Sorted.{IsStrictlySortedBy}
use Rattle.std.specs.Ordering.{is_eq, match_ordering, ordering_reverse}
use Rattle.std.specs.Map.{keys_of}
use Rattle.std.proofs.lemmas.Cmp.{nat_list_cmp_total}
use Rattle.std.proofs.lemmas.Map.Lookups.{exact_bytes}
use Rattle.std.proofs.lemmas.Map.Text.{is_eq-slice_cmp}
use Rattle.comm_core.specs.Machine.{Name, at, without}
use Rattle.comm_core.specs.Row.{with_row, without_all}
use Rattle.comm_core.specs.declared.row.Row.{Row}
use Rattle.comm_core.specs.declared.row.Row.TheVariants.{Same, Put, Out, Clear}
use Rattle.comm_core.specs.Tables.{Opens}
use Rattle.comm_core.specs.declared.comm.Comm.{Comm}
use Rattle.comm_versions.specs.Chunks.{AllIdsBelow, IsBelowFirst, StartsWithId, IsInOrder, id_cmp, upsert}

-- ---- ids

pub flip : (x y : Name) (o : Ordering) → id_cmp x y ≡ o → id_cmp y x ≡ ordering_reverse o
flip x y o h = nat_list_cmp_total.antisymm y x ∙ ap ordering_reverse h

pub differs : (x y : Name) (o : Ordering) → id_cmp x y ≡ o → is_eq o ≡ false → bytes_eq x y ≡ false
differs x y o h not = sym (is_eq-slice_cmp x y) ∙ ap is_eq h ∙ not

same_id : (x y : Name) → id_cmp x y ≡ Equal → bytes_eq x y ≡ true
same_id x y h = sym (is_eq-slice_cmp x y) ∙ ap is_eq h

-- the id is below each of these
abbrev pub IsBelow : Name → Opens → Type 0
IsBelow k es = AllByRecursion (λ n. id_cmp k n ≡ Less) (keys_of es)

below_more : (k l : Name) (es : Opens) → id_cmp k l ≡ Less → IsBelow l es → IsBelow k es
below_more k l [] h b = tt
below_more k l (e ∷ es) h b = (nat_list_cmp_total.trans k l e.0 h b.0, below_more k l es h b.1)

pub absent_below : (k : Name) (es : Opens) → IsInOrder es → IsBelowFirst k es → IsBelow k es
unfolding IsStrictlySortedBy
absent_below k [] o a = tt
absent_below k (e ∷ es) o a = (a, below_more k e.0 es a o.0)

below_left : (k : Name) (xs ys : Opens) → IsBelow k (xs ++ ys) → IsBelow k xs
below_left k [] ys b = tt
below_left k (x ∷ xs) ys b = (b.0, below_left k xs ys b.1)

-- ---- parts of what is in order

pub ordered_right : (xs ys : Opens) → IsInOrder (xs ++ ys) → IsInOrder ys
unfolding IsStrictlySortedBy
ordered_right [] ys o = o
ordered_right (x ∷ xs) ys o = ordered_right xs ys o.1

pub ordered_left : (xs ys : Opens) → IsInOrder (xs ++ ys) → IsInOrder xs
unfolding IsStrictlySortedBy
ordered_left [] ys o = tt
ordered_left (x ∷ xs) ys o = (below_left x.0 xs ys o.0, ordered_left xs ys o.1)

pub ordered_chunk : (es before xs after : Opens) → es ≡ before ++ (xs ++ after) → IsInOrder es → IsInOrder xs
ordered_chunk es before xs after cut o = ordered_left xs after (ordered_right before (xs ++ after) (subst IsInOrder cut o))

pub ordered_after : (es before xs after : Opens) → es ≡ before ++ (xs ++ after) → IsInOrder es → IsInOrder after
ordered_after es before xs after cut o = ordered_right xs after (ordered_right before (xs ++ after) (subst IsInOrder cut o))

-- ---- where an id stands

at_above : (k : Name) (es : Opens) (i : ℕ) (d : Name × Comm) → IsBelow k es → i < length es → id_cmp k (get_or es i d).0 ≡ Less
at_above k [] i d b h = absurd (omega arith)
at_above k (e ∷ es) zero d b h = b.0
at_above k (e ∷ es) (suc i) d b h = at_above k es i d b.1 (omega arith)

pub below_at : (k : Name) (es : Opens) (i : ℕ) (d : Name × Comm) → IsInOrder es → i < length es → id_cmp k (get_or es i d).0 ≡ Greater → AllIdsBelow k (take (suc i) es)
unfolding IsStrictlySortedBy
below_at k [] i d o h g = absurd (omega arith)
below_at k (e ∷ es) zero d o h g = (g, tt)
below_at k (e ∷ es) (suc i) d o h g =
    let x : Name = (get_or es i d).0 in
    (flip e.0 k Less (nat_list_cmp_total.trans e.0 x k (at_above e.0 es i d o.0 (omega arith)) (flip k x Greater g)), below_at k es i d o.1 (omega arith) g)

pub below_found : (k : Name) (es : Opens) (i : ℕ) (d : Name × Comm) → IsInOrder es → i < length es → id_cmp k (get_or es i d).0 ≡ Equal → AllIdsBelow k (take i es)
unfolding IsStrictlySortedBy
below_found k [] i d o h g = absurd (omega arith)
below_found k (e ∷ es) zero d o h g = tt
below_found k (e ∷ es) (suc i) d o h g =
    let x : Name = (get_or es i d).0 in
    (nat_list_cmp_total.congr k x e.0 g ∙ flip e.0 x Less (at_above e.0 es i d o.0 (omega arith)), below_found k es i d o.1 (omega arith) g)

pub found_at : (k : Name) (es : Opens) (i : ℕ) (d : Name × Comm) → i < length es → id_cmp k (get_or es i d).0 ≡ Equal → StartsWithId k (drop i es)
found_at k [] i d h g = absurd (omega arith)
found_at k (e ∷ es) zero d h g = g
found_at k (e ∷ es) (suc i) d h g = found_at k es i d (omega arith) g

pub absent_at : (k : Name) (es : Opens) (i : ℕ) (d : Name × Comm) → i < length es → id_cmp k (get_or es i d).0 ≡ Less → IsBelowFirst k (drop i es)
absent_at k [] i d h g = absurd (omega arith)
absent_at k (e ∷ es) zero d h g = g
absent_at k (e ∷ es) (suc i) d h g = absent_at k es i d (omega arith) g

-- an id that isn't below this comm is above those before it
above_all : (k x y : Name) (o : Ordering) → id_cmp k y ≡ o → (o ≡ Less → ⊥) → id_cmp x y ≡ Less → id_cmp k x ≡ Greater
above_all k x y Less e h less = absurd (h refl)
above_all k x y Equal e h less = nat_list_cmp_total.congr k y x e ∙ flip x y Less less
above_all k x y Greater e h less = flip x k Less (nat_list_cmp_total.trans x y k less (flip k y Greater e))

below_middle : (k : Name) (xs : Opens) (y : Name × Comm) (zs : Opens) → IsBelow k (xs ++ y ∷ zs) → id_cmp k y.0 ≡ Less
below_middle k [] y zs b = b.0
below_middle k (x ∷ xs) y zs b = below_middle k xs y zs b.1

pub below_front : (k : Name) (xs : Opens) (y : Name × Comm) (zs : Opens) → IsInOrder (xs ++ y ∷ zs) → (id_cmp k y.0 ≡ Less → ⊥) → AllIdsBelow k xs
unfolding IsStrictlySortedBy
below_front k [] y zs o h = tt
below_front k (x ∷ xs) y zs o h = (above_all k x.0 y.0 (id_cmp k y.0) refl h (below_middle x.0 xs y zs o.0), below_front k xs y zs o.1 h)

above_one : (k : Name) (y : Name × Comm) (zs : Opens) (o : Ordering) → id_cmp k y.0 ≡ o → (o ≡ Greater → ⊥) → IsBelow y.0 zs → IsBelow k zs
above_one k y zs Less e h b = below_more k y.0 zs e b
above_one k y zs Equal e h b = subst (λ n. IsBelow n zs) (sym (exact_bytes k y.0 e)) b
above_one k y zs Greater e h b = absurd (h refl)

-- an id that isn't above this comm is below those behind it
pub above_back : (k : Name) (xs : Opens) (y : Name × Comm) (zs : Opens) → IsInOrder (xs ++ y ∷ zs) → (id_cmp k y.0 ≡ Greater → ⊥) → IsBelow k zs
unfolding IsStrictlySortedBy
above_back k xs y zs o h = above_one k y zs (id_cmp k y.0) refl h (ordered_right xs (y ∷ zs) o).0

pub below_part : (k : Name) (xs ys : Opens) → AllIdsBelow k (xs ++ ys) → AllIdsBelow k xs
below_part k [] ys b = tt
below_part k (x ∷ xs) ys b = (b.0, below_part k xs ys b.1)

pub below_right : (k : Name) (xs ys : Opens) → IsBelow k (xs ++ ys) → IsBelow k ys
below_right k [] ys b = b
below_right k (x ∷ xs) ys b = below_right k xs ys b.1

pub absent_of : (k : Name) (es : Opens) → IsBelow k es → IsBelowFirst k es
absent_of k [] b = tt
absent_of k (e ∷ es) b = b.0

-- ---- in one chunk

pub put_found : (es : Opens) (i : ℕ) (c : Name × Comm) → i < length es → AllIdsBelow c.0 (take i es) → StartsWithId c.0 (drop i es) → upsert es c ≡ take i es ++ c ∷ drop (suc i) es
put_found [] i c h b f = absurd (omega arith)
put_found (e ∷ es) zero c h b f = rw f (ap (λ (k : Name). (k, c.1) ∷ es) (sym (exact_bytes c.0 e.0 f)))
put_found (e ∷ es) (suc i) c h b f = rw b.0 (ap (λ l. e ∷ l) (put_found es i c (omega arith) b.1 f))

pub put_absent : (es : Opens) (i : ℕ) (c : Name × Comm) → i ≤ length es → AllIdsBelow c.0 (take i es) → IsBelowFirst c.0 (drop i es) → upsert es c ≡ take i es ++ c ∷ drop i es
put_absent [] zero c h b a = refl
put_absent [] (suc i) c h b a = absurd (omega arith)
put_absent (e ∷ es) zero c h b a = rw a refl
put_absent (e ∷ es) (suc i) c h b a = rw b.0 (ap (λ l. e ∷ l) (put_absent es i c (omega arith) b.1 a))

pub without_found : (es : Opens) (i : ℕ) (k : Name) → i < length es → AllIdsBelow k (take i es) → StartsWithId k (drop i es) → without es k ≡ take i es ++ drop (suc i) es
without_found [] i k h b f = absurd (omega arith)
without_found (e ∷ es) zero k h b f = ap (λ t. cond t es (e ∷ without es k)) (same_id k e.0 f)
without_found (e ∷ es) (suc i) k h b f =
    ap (λ t. cond t es (e ∷ without es k)) (differs k e.0 Greater b.0 refl) ∙ ap (λ l. e ∷ l) (without_found es i k (omega arith) b.1 f)

without_below : (es : Opens) (k : Name) → IsBelow k es → without es k ≡ es
without_below [] k b = refl
without_below (e ∷ es) k b = ap (λ t. cond t es (e ∷ without es k)) (differs k e.0 Less b.0 refl) ∙ ap (λ l. e ∷ l) (without_below es k b.1)

pub without_absent : (es : Opens) (i : ℕ) (k : Name) → IsInOrder es → AllIdsBelow k (take i es) → IsBelowFirst k (drop i es) → without es k ≡ es
unfolding IsStrictlySortedBy
without_absent [] i k o b a = refl
without_absent (e ∷ es) zero k o b a = without_below (e ∷ es) k (absent_below k (e ∷ es) o a)
without_absent (e ∷ es) (suc i) k o b a =
    ap (λ t. cond t es (e ∷ without es k)) (differs k e.0 Greater b.0 refl) ∙ ap (λ l. e ∷ l) (without_absent es i k o.1 b.1 a)

pub at_found : (es : Opens) (i : ℕ) (k : Name) (d : Name × Comm) → i < length es → AllIdsBelow k (take i es) → StartsWithId k (drop i es) → at es k ≡ Some (get_or es i d).1
at_found [] i k d h b f = absurd (omega arith)
at_found (e ∷ es) zero k d h b f = ap (λ t. cond t (Some e.1) (at es k)) (same_id k e.0 f)
at_found (e ∷ es) (suc i) k d h b f = ap (λ t. cond t (Some e.1) (at es k)) (differs k e.0 Greater b.0 refl) ∙ at_found es i k d (omega arith) b.1 f

at_below : (es : Opens) (k : Name) → IsBelow k es → at es k ≡ None
at_below [] k b = refl
at_below (e ∷ es) k b = ap (λ t. cond t (Some e.1) (at es k)) (differs k e.0 Less b.0 refl) ∙ at_below es k b.1

pub at_absent : (es : Opens) (i : ℕ) (k : Name) → IsInOrder es → AllIdsBelow k (take i es) → IsBelowFirst k (drop i es) → at es k ≡ None
unfolding IsStrictlySortedBy
at_absent [] i k o b a = refl
at_absent (e ∷ es) zero k o b a = at_below (e ∷ es) k (absent_below k (e ∷ es) o a)
at_absent (e ∷ es) (suc i) k o b a = ap (λ t. cond t (Some e.1) (at es k)) (differs k e.0 Greater b.0 refl) ∙ at_absent es i k o.1 b.1 a

-- ---- a chunk among others

put_past : (xs ys : Opens) (c : Name × Comm) → AllIdsBelow c.0 xs → upsert (xs ++ ys) c ≡ xs ++ upsert ys c
put_past [] ys c b = refl
put_past (x ∷ xs) ys c b = rw b.0 (ap (λ l. x ∷ l) (put_past xs ys c b.1))

put_first : (ys : Opens) (c : Name × Comm) → IsBelowFirst c.0 ys → upsert ys c ≡ c ∷ ys
put_first [] c a = refl
put_first (y ∷ ys) c a = rw a refl

put_before : (xs ys : Opens) (c : Name × Comm) → IsBelowFirst c.0 ys → upsert (xs ++ ys) c ≡ upsert xs c ++ ys
put_before [] ys c a = put_first ys c a
put_before (x ∷ xs) ys c a =
    let more = put_before xs ys c a in
    elim (id_cmp c.0 x.0) as (λ o. match_ordering o (c ∷ x ∷ (xs ++ ys)) ((x.0, c.1) ∷ (xs ++ ys)) (x ∷ upsert (xs ++ ys) c) ≡ match_ordering o (c ∷ x ∷ xs) ((x.0, c.1) ∷ xs) (x ∷ upsert xs c) ++ ys) [
      | Less ↦ refl
      | Equal ↦ refl
      | Greater ↦ ap (λ l. x ∷ l) more
    ]

pub put_chunk : (es before xs after : Opens) (c : Name × Comm) → es ≡ before ++ (xs ++ after) → AllIdsBelow c.0 before → IsBelowFirst c.0 after → before ++ (upsert xs c ++ after) ≡ upsert es c
put_chunk es before xs after c cut b a =
    sym (ap (λ l. upsert l c) cut ∙ put_past before (xs ++ after) c b ∙ ap (λ l. before ++ l) (put_before xs after c a))

without_past : (xs ys : Opens) (k : Name) → AllIdsBelow k xs → without (xs ++ ys) k ≡ xs ++ without ys k
without_past [] ys k b = refl
without_past (x ∷ xs) ys k b =
    ap (λ t. cond t (xs ++ ys) (x ∷ without (xs ++ ys) k)) (differs k x.0 Greater b.0 refl) ∙ ap (λ l. x ∷ l) (without_past xs ys k b.1)

without_before : (xs ys : Opens) (k : Name) → IsBelow k ys → without (xs ++ ys) k ≡ without xs k ++ ys
without_before [] ys k b = without_below ys k b
without_before (x ∷ xs) ys k b =
    let more = without_before xs ys k b in
    elim (bytes_eq k x.0) as (λ t. cond t (xs ++ ys) (x ∷ without (xs ++ ys) k) ≡ cond t xs (x ∷ without xs k) ++ ys) [ true ↦ refl | false ↦ ap (λ l. x ∷ l) more ]

pub without_chunk : (es before xs after : Opens) (k : Name) → es ≡ before ++ (xs ++ after) → IsInOrder es → AllIdsBelow k before → IsBelowFirst k after → before ++ (without xs k ++ after) ≡ without es k
without_chunk es before xs after k cut o b a =
    sym (ap (λ l. without l k) cut ∙ without_past before (xs ++ after) k b ∙ ap (λ l. before ++ l) (without_before xs after k (absent_below k after (ordered_after es before xs after cut o) a)))

at_past : (xs ys : Opens) (k : Name) → AllIdsBelow k xs → at (xs ++ ys) k ≡ at ys k
at_past [] ys k b = refl
at_past (x ∷ xs) ys k b = ap (λ t. cond t (Some x.1) (at (xs ++ ys) k)) (differs k x.0 Greater b.0 refl) ∙ at_past xs ys k b.1

at_before : (xs ys : Opens) (k : Name) → IsBelow k ys → at (xs ++ ys) k ≡ at xs k
at_before [] ys k b = at_below ys k b
at_before (x ∷ xs) ys k b = ap (λ (o : Option Comm). cond (bytes_eq k x.0) (Some x.1) o) (at_before xs ys k b)

pub at_chunk : (es before xs after : Opens) (k : Name) → es ≡ before ++ (xs ++ after) → IsInOrder es → AllIdsBelow k before → IsBelowFirst k after → at xs k ≡ at es k
at_chunk es before xs after k cut o b a =
    sym (ap (λ l. at l k) cut ∙ at_past before (xs ++ after) k b ∙ at_before xs after k (absent_below k after (ordered_after es before xs after cut o) a))

-- ---- the order stays

below_put : (k : Name) (es : Opens) (c : Name × Comm) → IsBelow k es → id_cmp k c.0 ≡ Less → IsBelow k (upsert es c)
below_put k [] c b h = (h, tt)
below_put k (e ∷ es) c b h =
    let more = below_put k es c b.1 h in
    elim (id_cmp c.0 e.0) as (λ o. IsBelow k (match_ordering o (c ∷ e ∷ es) ((e.0, c.1) ∷ es) (e ∷ upsert es c))) [
      | Less ↦ (h, b)
      | Equal ↦ b
      | Greater ↦ (b.0, more)
    ]

pub put_in_order : (es : Opens) (c : Name × Comm) → IsInOrder es → IsInOrder (upsert es c)
unfolding IsStrictlySortedBy
put_in_order [] c o = (tt, tt)
put_in_order (e ∷ es) c o =
    let more = put_in_order es c o.1 in
    (elim (id_cmp c.0 e.0) as (λ r. id_cmp c.0 e.0 ≡ r → IsInOrder (match_ordering r (c ∷ e ∷ es) ((e.0, c.1) ∷ es) (e ∷ upsert es c))) [
      | Less ↦ λ l. ((l, below_more c.0 e.0 es l o.0), o)
      | Equal ↦ λ _. o
      | Greater ↦ λ g. (below_put e.0 es c o.0 (flip c.0 e.0 Greater g), more)
    ]) refl

below_without : (k id : Name) (es : Opens) → IsBelow k es → IsBelow k (without es id)
below_without k id [] b = tt
below_without k id (e ∷ es) b =
    let more = below_without k id es b.1 in
    elim (bytes_eq id e.0) as (λ t. IsBelow k (cond t es (e ∷ without es id))) [ true ↦ b.1 | false ↦ (b.0, more) ]

pub without_in_order : (es : Opens) (id : Name) → IsInOrder es → IsInOrder (without es id)
unfolding IsStrictlySortedBy
without_in_order [] id o = tt
without_in_order (e ∷ es) id o =
    let more = without_in_order es id o.1 in
    elim (bytes_eq id e.0) as (λ t. IsInOrder (cond t es (e ∷ without es id))) [ true ↦ o.1 | false ↦ (below_without e.0 id es o.0, more) ]

-- ---- what was seen of the comm at i

pub seen : (k : Name) (es : Opens) (i : ℕ) (e : Name × Comm) (o : Ordering) → o ≡ id_cmp k e.0 → e ≡ get_or es i e → id_cmp k (get_or es i e).0 ≡ o
seen k es i e o answer is = ap (λ (x : Name × Comm). id_cmp k x.0) (sym is) ∙ sym answer

all_in_order : (ids : List Name) (es : Opens) → IsInOrder es → IsInOrder (without_all ids es)
all_in_order [] es o = o
all_in_order (id ∷ ids) es o = all_in_order ids (without es id) (without_in_order es id o)

pub with_in_order : (r : Row) (es : Opens) → IsInOrder es → IsInOrder (with_row r es)
unfolding IsStrictlySortedBy
with_in_order Same es o = o
with_in_order (Put c) es o = put_in_order es c o
with_in_order (Out ids) es o = all_in_order ids es o
with_in_order Clear es o = tt
