-- Members that are let in at their places.
use Rattle.std.proofs.Common.{append-nil, String, Global, string_bytes, string_cmp, ◌≡◌, ℕ, zero, suc, ◌+◌, ◌<◌, ◌≤◌, List, [], ◌∷◌, ◌++◌, length, take, drop, get_or, slice_set, Bor, Ordering, Less, Equal, Greater, nat_cmp, refl, sym, ap, ◌∙◌, subst, arith}
use Rattle.std.proofs.lemmas.Cmp.{nat_list_cmp_total}
use Rattle.std.proofs.lemmas.List.{take_more}
use Rattle.std.specs.Cmp.Lexicographic.{slice_cmp}
use Rattle.std.specs.List.{AllByRecursion}
use Rattle.std.specs.List.Sorted.{IsStrictlySortedBy}
use Rattle.std.specs.Map.{keys_of}
use Rattle.std.specs.Ordering.{match_ordering, ordering_reverse}
use Rattle.std.specs.BTreeMap.{insert_entry}
use Rattle.json.specs.Value.{value_view, members_view}
use Rattle.json.specs.Json.{Members, no_members}
use Rattle.comm_json.specs.declared.json_ref.JsonRef.{JsonRef}
use Rattle.comm_json.specs.Behind.{behind, put, tidy, tidy_members, members_of, text_cmp, AreInOrder}
use Rattle.json.specs.declared.value.Value.{Value as Borrowed}
use Rattle.serde_json.specs.Written.{outline, members_outline}
use Rattle.serde_json.specs.View.{view, members_view as owned_view}
use Rattle.serde_json.specs.declared.value.Value.{Value}

-- a member as it stands in a line
abbrev pub Member : Type 0 → Type 0
Member A = Bor (List ℕ) × Borrowed A

abbrev pub Key : Type 0
Key = Bor (List ℕ)

abbrev pub Ref : Type 0
Ref = Key × JsonRef

members_of-match_ordering : (o : Ordering) (a b c : List Ref) → members_of (match_ordering o a b c) ≡ match_ordering o (members_of a) (members_of b) (members_of c)
members_of-match_ordering Less a b c = refl
members_of-match_ordering Equal a b c = refl
members_of-match_ordering Greater a b c = refl

pub members_of-insert_entry : (es : List Ref) (k : Key) (v : JsonRef) → members_of (insert_entry text_cmp es k v) ≡ put k.now (behind v) (members_of es)
members_of-insert_entry [] k v = refl
members_of-insert_entry (e ∷ es) k v = members_of-match_ordering (text_cmp k e.0) _ _ _ ∙ rw (members_of-insert_entry es k v)

-- the last member is put in last
pub put_last : {A : Type 0} → (ms : List (Member A)) (m : Member A) (found : Members) → tidy_members (members_view (ms ++ m ∷ [])) found ≡ put m.0.now (tidy (value_view m.1)) (tidy_members (members_view ms) found)
put_last [] m found = refl
put_last (n ∷ ms) m found = put_last ms m (put n.0.now (tidy (value_view n.1)) found)

text_antisymm : (x y : Key) → text_cmp x y ≡ ordering_reverse (text_cmp y x)
text_antisymm x y = nat_list_cmp_total.antisymm x.now y.now

text_trans : (x y z : Key) → text_cmp x y ≡ Less → text_cmp y z ≡ Less → text_cmp x z ≡ Less
text_trans x y z = nat_list_cmp_total.trans x.now y.now z.now

text_congr : (x y z : Key) → text_cmp x y ≡ Equal → text_cmp x z ≡ text_cmp y z
text_congr x y z = nat_list_cmp_total.congr x.now y.now z.now

above : (x y : Key) → text_cmp x y ≡ Less → text_cmp y x ≡ Greater
above x y h = text_antisymm y x ∙ ap ordering_reverse h

below : (x y : Key) → text_cmp x y ≡ Greater → text_cmp y x ≡ Less
below x y h = text_antisymm y x ∙ ap ordering_reverse h

-- each key is above k
abbrev pub AllAbove : List ℕ → List Key → Type 0
AllAbove k ks = AllByRecursion (λ y. slice_cmp nat_cmp k y.now ≡ Less) ks

all_above_too : (k l : Key) (ks : List Key) → text_cmp k l ≡ Less → AllAbove l.now ks → AllAbove k.now ks
all_above_too k l [] h all = tt
all_above_too k l (y ∷ ks) h all = (text_trans k l y h all.0, all_above_too k l ks h all.1)

-- ---- order is kept

above_at : (o : Ordering) (b k : Key) (v : JsonRef) (e : Ref) (es : List Ref) → text_cmp b k ≡ Less → AllAbove b.now (keys_of (e ∷ es)) → AllAbove b.now (keys_of (insert_entry text_cmp es k v))
    → AllAbove b.now (keys_of (match_ordering o ((k, v) ∷ e ∷ es) ((e.0, v) ∷ es) (e ∷ insert_entry text_cmp es k v)))
above_at Less b k v e es h all later = (h, all)
above_at Equal b k v e es h all later = all
above_at Greater b k v e es h all later = (all.0, later)

all_above-insert_entry : (b k : Key) (v : JsonRef) (es : List Ref) → text_cmp b k ≡ Less → AllAbove b.now (keys_of es) → AllAbove b.now (keys_of (insert_entry text_cmp es k v))
all_above-insert_entry b k v [] h all = (h, tt)
all_above-insert_entry b k v (e ∷ es) h all = above_at (text_cmp k e.0) b k v e es h all (all_above-insert_entry b k v es h all.1)

kept_at : (o : Ordering) (k : Key) (v : JsonRef) (e : Ref) (es : List Ref) → text_cmp k e.0 ≡ o → AreInOrder (e ∷ es) → AreInOrder (insert_entry text_cmp es k v)
    → AreInOrder (match_ordering o ((k, v) ∷ e ∷ es) ((e.0, v) ∷ es) (e ∷ insert_entry text_cmp es k v))
unfolding IsStrictlySortedBy
kept_at Less k v e es is s later = ((is, all_above_too k e.0 (keys_of es) is s.0), s)
kept_at Equal k v e es is s later = s
kept_at Greater k v e es is s later = (all_above-insert_entry e.0 k v es (below k e.0 is) s.0, later)

pub order_kept : (es : List Ref) (k : Key) (v : JsonRef) → AreInOrder es → AreInOrder (insert_entry text_cmp es k v)
unfolding IsStrictlySortedBy
order_kept [] k v s = (tt, tt)
order_kept (e ∷ es) k v s = kept_at (text_cmp k e.0) k v e es refl s (order_kept es k v s.1)

-- ---- at a place

all_at : (b : Key) (es : List Ref) (i : ℕ) (d : Ref) → i < length es → AllAbove b.now (keys_of es) → text_cmp b (get_or es i d).0 ≡ Less
all_at b [] i d h all = absurd (omega arith)
all_at b (e ∷ es) zero d h all = all.0
all_at b (e ∷ es) (suc i) d h all = all_at b es i d (omega arith) all.1

-- before the first that is above
pub goes_first : (es : List Ref) (k : Key) (v : JsonRef) → AllAbove k.now (keys_of es) → insert_entry text_cmp es k v ≡ (k, v) ∷ es
goes_first [] k v all = refl
goes_first (e ∷ es) k v all = rw all.0 refl

pub goes_in : (es : List Ref) (i : ℕ) (k : Key) (v : JsonRef) (d : Ref) → AreInOrder es → i < length es → text_cmp k (get_or es i d).0 ≡ Greater → AllAbove k.now (keys_of (drop (suc i) es))
    → insert_entry text_cmp es k v ≡ take (suc i) es ++ (k, v) ∷ drop (suc i) es
unfolding IsStrictlySortedBy
goes_in [] i k v d s h is all = absurd (omega arith)
goes_in (e ∷ es) zero k v d s h is all = rw is (ap (λ l. e ∷ l) (goes_first es k v all))
goes_in (e ∷ es) (suc i) k v d s h is all =
    let less : text_cmp e.0 (get_or es i d).0 ≡ Less = all_at e.0 es i d (omega arith) s.0 in
    let more : text_cmp k e.0 ≡ Greater = above e.0 k (text_trans e.0 (get_or es i d).0 k less (below k (get_or es i d).0 is)) in
    rw more (ap (λ l. e ∷ l) (goes_in es i k v d s.1 (omega arith) is all))

pub takes_place : (es : List Ref) (i : ℕ) (k : Key) (v : JsonRef) (d : Ref) → AreInOrder es → i < length es → text_cmp k (get_or es i d).0 ≡ Equal
    → insert_entry text_cmp es k v ≡ slice_set es i ((get_or es i d).0, v)
unfolding IsStrictlySortedBy
takes_place [] i k v d s h is = absurd (omega arith)
takes_place (e ∷ es) zero k v d s h is = rw is refl
takes_place (e ∷ es) (suc i) k v d s h is =
    let less : text_cmp e.0 (get_or es i d).0 ≡ Less = all_at e.0 es i d (omega arith) s.0 in
    let more : text_cmp k e.0 ≡ Greater = text_congr k (get_or es i d).0 e.0 is ∙ above e.0 (get_or es i d).0 less in
    rw more (ap (λ l. e ∷ l) (takes_place es i k v d s.1 (omega arith) is))

-- one more member of a list is put in
pub put_next : {A : Type 0} → (ms : List (Member A)) (i : ℕ) (m : Member A) (es new : List Ref) (k : Key) (v : JsonRef) → i < length ms → m ≡ get_or ms i m → members_of es ≡ tidy_members (members_view (take i ms)) no_members
    → new ≡ insert_entry text_cmp es k v → k.now ≡ m.0.now → behind v ≡ tidy (value_view m.1) → members_of new ≡ tidy_members (members_view (take (i + 1) ms)) no_members
put_next ms i m es new k v within is h inserted key value =
    ap members_of inserted ∙ members_of-insert_entry es k v ∙ rw (key, value, h) (sym (put_last (take i ms) m no_members))
    ∙ ap (λ l. tidy_members (members_view l) no_members) (sym (take_more ms i m within ∙ ap (λ n. take i ms ++ n ∷ []) (sym is)))

-- ---- at the loops

pub let_in_above : (old es new : List Ref) (i p : ℕ) (k : Key) (v : JsonRef) (d : Ref) → es ≡ old → AreInOrder old → p ≡ suc i → p ≤ length es → d ≡ get_or es i d → text_cmp k d.0 ≡ Greater
    → AllAbove k.now (keys_of (drop p es)) → new ≡ take p es ++ (k, v) ∷ drop p es → new ≡ insert_entry text_cmp old k v
let_in_above old es new i p k v d same s next h at is all made =
    made ∙ ap (λ q. take q es ++ (k, v) ∷ drop q es) next
    ∙ sym (goes_in es i k v d (subst AreInOrder (sym same) s) (omega (arith, next)) (ap (λ (m : Ref). text_cmp k m.0) (sym at) ∙ is) (subst (λ q. AllAbove k.now (keys_of (drop q es))) next all))
    ∙ ap (λ l. insert_entry text_cmp l k v) same

pub let_in_first : (old es new : List Ref) (p : ℕ) (k : Key) (v : JsonRef) → es ≡ old → p ≤ 0 → AllAbove k.now (keys_of (drop p es)) → new ≡ (k, v) ∷ es → new ≡ insert_entry text_cmp old k v
let_in_first old es new zero k v same none all made = made ∙ sym (goes_first es k v all) ∙ ap (λ l. insert_entry text_cmp l k v) same
let_in_first old es new (suc i) k v same none all made = absurd (omega arith)

same_at : (es : List Ref) (i : ℕ) (d e : Ref) → i < length es → d ≡ get_or es i d → e ≡ get_or es i e → e ≡ d
same_at [] i d e h x y = absurd (omega arith)
same_at (f ∷ es) zero d e h x y = y ∙ sym x
same_at (f ∷ es) (suc i) d e h x y = same_at es i d e (omega arith) x y

pub let_in_place : (old es new : List Ref) (i : ℕ) (k : Key) (v : JsonRef) (d e : Ref) → es ≡ old → AreInOrder old → i < length es → d ≡ get_or es i d → text_cmp k d.0 ≡ Equal
    → e ≡ get_or es i e → new ≡ slice_set es i (e.0, v) → new ≡ insert_entry text_cmp old k v
let_in_place old es new i k v d e same s h at is too made =
    made ∙ ap (λ (m : Ref). slice_set es i (m.0, v)) (same_at es i d e h at too ∙ at)
    ∙ sym (takes_place es i k v d (subst AreInOrder (sym same) s) h (ap (λ (m : Ref). text_cmp k m.0) (sym at) ∙ is)) ∙ ap (λ l. insert_entry text_cmp l k v) same

pub none_in_order : (es : List Ref) → es ≡ [] → AreInOrder es
unfolding IsStrictlySortedBy
none_in_order es none = subst AreInOrder (sym none) tt

-- ---- members of serde_json's

abbrev pub Owned : Type 0
Owned = String Global × Value

-- they show these
abbrev pub AreOwned : List Ref → List Owned → Type 0
AreOwned [] [] = Unit {0}
AreOwned [] (x ∷ xs) = ⊥
AreOwned (e ∷ es) [] = ⊥
AreOwned (e ∷ es) (x ∷ xs) = (e.0.now ≡ string_bytes x.0) × (behind e.1 ≡ outline (view x.1)) × AreOwned es xs

pub one_more_owned : (es : List Ref) (xs : List Owned) (e : Ref) (x : Owned) → AreOwned es xs → e.0.now ≡ string_bytes x.0 → behind e.1 ≡ outline (view x.1) → AreOwned (es ++ e ∷ []) (xs ++ x ∷ [])
one_more_owned [] [] e x h key value = (key, value, tt)
one_more_owned [] (y ∷ xs) e x h key value = absurd h
one_more_owned (f ∷ es) [] e x h key value = absurd h
one_more_owned (f ∷ es) (y ∷ xs) e x h key value = (h.0, h.1, one_more_owned es xs e x h.2 key value)

pub owned_members : (es : List Ref) (xs : List Owned) → AreOwned es xs → members_of es ≡ members_outline (owned_view xs)
owned_members [] [] h = refl
owned_members [] (x ∷ xs) h = absurd h
owned_members (e ∷ es) [] h = absurd h
owned_members (e ∷ es) (x ∷ xs) h = rw (h.0, h.1, owned_members es xs h.2) refl

owned_above : (e : Ref) (x : Owned) (es : List Ref) (xs : List Owned) → e.0.now ≡ string_bytes x.0 → AreOwned es xs → AllByRecursion (λ y. string_cmp x.0 y ≡ Less) (keys_of xs) → AllAbove e.0.now (keys_of es)
owned_above e x [] [] key h all = tt
owned_above e x [] (y ∷ xs) key h all = absurd h
owned_above e x (f ∷ es) [] key h all = absurd h
owned_above e x (f ∷ es) (y ∷ xs) key h all = (rw (key, h.0) all.0, owned_above e x es xs key h.2 all.1)

pub owned_in_order : (es : List Ref) (xs : List Owned) → AreOwned es xs → IsStrictlySortedBy string_cmp (keys_of xs) → AreInOrder es
unfolding IsStrictlySortedBy
owned_in_order [] [] h s = tt
owned_in_order [] (x ∷ xs) h s = absurd h
owned_in_order (e ∷ es) [] h s = absurd h
owned_in_order (e ∷ es) (x ∷ xs) h s = (owned_above e x es xs h.0 h.2 s.0, owned_in_order es xs h.2 s.1)

pub all_owned : (all done rest : List Owned) (es : List Ref) → all ≡ done ++ rest → rest ≡ [] → AreOwned es done → members_of es ≡ members_outline (owned_view all)
all_owned all done rest es is end h = owned_members es done h ∙ ap (λ l. members_outline (owned_view l)) (sym (is ∙ ap (λ l. done ++ l) end ∙ append-nil done))

pub all_owned_in_order : (all done rest : List Owned) (es : List Ref) → all ≡ done ++ rest → rest ≡ [] → IsStrictlySortedBy string_cmp (keys_of all) → AreOwned es done → AreInOrder es
all_owned_in_order all done rest es is end s h = owned_in_order es done h (subst (λ l. IsStrictlySortedBy string_cmp (keys_of l)) (is ∙ ap (λ l. done ++ l) end ∙ append-nil done) s)
