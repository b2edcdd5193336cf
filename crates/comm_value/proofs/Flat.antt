-- The members of a dict in chunks.
use Rattle.std.proofs.Common.{◌≡◌, ℕ, zero, suc, ◌<◌, ◌≤◌, ◌+◌, List, [], ◌∷◌, ◌++◌, length, get_or, take, drop, Global, Vec, refl, sym, ap, ◌∙◌, arith, ◌-◌, append_assoc, append-nil, length-append, length-drop, length-take-le, take-append-drop, subst}
use Rattle.std.proofs.lemmas.List.{drop_all, take_all, take_more}
use Rattle.std.specs.Prelude.{◌==◌, false, vec_len}
use Rattle.std.specs.Arc.{arc_value}
use Rattle.comm_value.specs.declared.val.Member.{Member}
use Rattle.comm_value.specs.declared.val.Group.{Group}
use Rattle.comm_value.specs.View.{Chunk, grouped, flat, AllFilled}
use Rattle.comm_value.proofs.Lists.{first_is}

pub flat_append : (ps qs : List Chunk) → flat (ps ++ qs) ≡ flat ps ++ flat qs
flat_append [] qs = refl
flat_append (p ∷ ps) qs = ap (λ l. grouped (arc_value p) ++ l) (flat_append ps qs) ∙ sym (append_assoc (grouped (arc_value p)) (flat ps) (flat qs))

pub flat_cut : (ps : List Chunk) (i : ℕ) → flat ps ≡ flat (take i ps) ++ flat (drop i ps)
flat_cut ps i = ap flat (sym (take-append-drop i ps)) ∙ flat_append (take i ps) (drop i ps)

-- one more chunk, of these members
pub flat_push : (ps new : List Chunk) (p : Chunk) (xs : List Member) → new ≡ ps ++ p ∷ [] → grouped (arc_value p) ≡ xs → flat new ≡ flat ps ++ xs
flat_push ps new p xs pushed is = ap flat pushed ∙ flat_append ps (p ∷ []) ∙ ap (λ l. flat ps ++ l) (append-nil (grouped (arc_value p)) ∙ is)

-- ---- at the loops over chunks, and over the members of one

pub opened : (ps : List Chunk) (i : ℕ) (p : Chunk) (v : Group) (xs : List Member) → i < length ps → p ≡ get_or ps i p → v ≡ arc_value p → xs ≡ grouped v → flat (drop i ps) ≡ xs ++ flat (drop (i + 1) ps)
opened ps i p v xs h is deref items =
    ap flat (first_is ps i p h is) ∙ ap (λ l. l ++ flat (drop (i + 1) ps)) (sym (items ∙ ap grouped deref))

pub next_is : (xs : List Member) (j : ℕ) (x : Member) (rest : List Member) → j < length xs → x ≡ get_or xs j x → drop j xs ++ rest ≡ x ∷ (drop (j + 1) xs ++ rest)
next_is xs j x rest h is = ap (λ l. l ++ rest) (first_is xs j x h is)

pub closed : (xs : List Member) (j : ℕ) (rest : List Member) → length xs ≤ j → drop j xs ++ rest ≡ rest
closed xs j rest h = ap (λ l. l ++ rest) (drop_all j xs h)

pub none_left : (ps : List Chunk) (i : ℕ) → length ps ≤ i → flat (drop i ps) ≡ []
none_left ps i h = ap flat (drop_all i ps h)

-- the members before the next one and those from it on
pub cut_at : (ps : List Chunk) (i : ℕ) (xs : List Member) (j : ℕ) → flat (drop i ps) ≡ xs ++ flat (drop (i + 1) ps) → flat ps ≡ (flat (take i ps) ++ take j xs) ++ (drop j xs ++ flat (drop (i + 1) ps))
cut_at ps i xs j here =
    flat_cut ps i ∙ ap (λ l. flat (take i ps) ++ l) (here ∙ ap (λ l. l ++ flat (drop (i + 1) ps)) (sym (take-append-drop j xs)) ∙ append_assoc (take j xs) (drop j xs) (flat (drop (i + 1) ps)))
    ∙ sym (append_assoc (flat (take i ps)) (take j xs) (drop j xs ++ flat (drop (i + 1) ps)))

pub taken_more : (before xs : List Member) (j : ℕ) (x : Member) → j < length xs → x ≡ get_or xs j x → (before ++ take j xs) ++ x ∷ [] ≡ before ++ take (j + 1) xs
taken_more before xs j x h is =
    append_assoc before (take j xs) (x ∷ []) ∙ ap (λ (y : Member). before ++ (take j xs ++ y ∷ [])) is ∙ ap (λ l. before ++ l) (sym (take_more xs j x h))

pub taken_chunk : (ps : List Chunk) (i : ℕ) (p : Chunk) (v : Group) (xs : List Member) (j : ℕ) → i < length ps → p ≡ get_or ps i p → v ≡ arc_value p → xs ≡ grouped v → length xs ≤ j → flat (take i ps) ++ take j xs ≡ flat (take (i + 1) ps)
taken_chunk ps i p v xs j h is deref items over =
    ap (λ l. flat (take i ps) ++ l) (take_all j xs over) ∙ sym (flat_push (take i ps) (take (i + 1) ps) p xs (take_more ps i p h ∙ ap (λ (q : Chunk). take i ps ++ q ∷ []) (sym is)) (sym (items ∙ ap grouped deref)))

-- ---- chunks that have members

pub filled_append : (ps qs : List Chunk) → AllFilled ps → AllFilled qs → AllFilled (ps ++ qs)
filled_append [] qs f g = g
filled_append (p ∷ ps) qs f g = (f.0, filled_append ps qs f.1 g)

pub filled_take : (ps : List Chunk) (i : ℕ) → AllFilled ps → AllFilled (take i ps)
filled_take [] zero f = tt
filled_take [] (suc i) f = tt
filled_take (p ∷ ps) zero f = tt
filled_take (p ∷ ps) (suc i) f = (f.0, filled_take ps i f.1)

pub filled_drop : (ps : List Chunk) (i : ℕ) → AllFilled ps → AllFilled (drop i ps)
filled_drop [] zero f = tt
filled_drop [] (suc i) f = tt
filled_drop (p ∷ ps) zero f = f
filled_drop (p ∷ ps) (suc i) f = filled_drop ps i f.1

pub filled_push : (ps new : List Chunk) (p : Chunk) (xs : List Member) → new ≡ ps ++ p ∷ [] → grouped (arc_value p) ≡ xs → 0 < length xs → AllFilled ps → AllFilled new
filled_push ps new p xs pushed is some f = subst AllFilled (sym pushed) (filled_append ps (p ∷ []) f (omega (arith, some, ap length is), tt))

pub filled_at : (ps : List Chunk) (i : ℕ) (d : Chunk) → i < length ps → AllFilled ps → 0 < length (grouped (arc_value (get_or ps i d)))
filled_at [] i d h f = absurd (omega arith)
filled_at (p ∷ ps) zero d h f = f.0
filled_at (p ∷ ps) (suc i) d h f = filled_at ps i d (omega arith) f.1

not_zero : (n : ℕ) → false ≡ (n == 0) → 0 < n
not_zero zero h = cc
not_zero (suc n) h = omega arith

pub not_empty : (xs : Vec Member Global) → false ≡ (vec_len xs == 0) → 0 < length xs.items
not_empty xs h = omega (arith, not_zero (vec_len xs) h)

-- ---- members let in at a place

pub filled_let_in : (ps new : List Chunk) (i : ℕ) (p : Chunk) (xs : List Member) → new ≡ take i ps ++ p ∷ drop i ps → grouped (arc_value p) ≡ xs → 0 < length xs → AllFilled ps → AllFilled new
filled_let_in ps new i p xs put is some f =
    subst AllFilled (sym put) (filled_append (take i ps) (p ∷ drop i ps) (filled_take ps i f) (omega (arith, some, ap length is), filled_drop ps i f))

pub filled_items : (ps : List Chunk) (i : ℕ) (p : Chunk) (v : Group) (xs : List Member) → i < length ps → p ≡ get_or ps i p → v ≡ arc_value p → xs ≡ grouped v → AllFilled ps → 0 < length xs
filled_items ps i p v xs h is deref items f =
    let same : xs ≡ grouped (arc_value (get_or ps i p)) = items ∙ ap grouped deref ∙ ap (λ (q : Chunk). grouped (arc_value q)) is in
    omega (arith, filled_at ps i p h f, ap length same)

-- ---- a chunk that was cut in two

take_put : (ps : List Chunk) (i : ℕ) (q : Chunk) → i ≤ length ps → take i (take i ps ++ q ∷ drop i ps) ≡ take i ps
take_put [] zero q h = refl
take_put [] (suc i) q h = absurd (omega arith)
take_put (p ∷ ps) zero q h = refl
take_put (p ∷ ps) (suc i) q h = ap (λ l. p ∷ l) (take_put ps i q (omega arith))

drop_put : (ps : List Chunk) (i : ℕ) (q : Chunk) → i ≤ length ps → drop i (take i ps ++ q ∷ drop i ps) ≡ q ∷ drop i ps
drop_put [] zero q h = refl
drop_put [] (suc i) q h = absurd (omega arith)
drop_put (p ∷ ps) zero q h = refl
drop_put (p ∷ ps) (suc i) q h = drop_put ps i q (omega arith)

-- the members of the chunks behind the place, once these are let in
pub one_behind : (ps new : List Chunk) (i : ℕ) (p : Chunk) (xs : List Member) → i ≤ length ps → new ≡ take i ps ++ p ∷ drop i ps → grouped (arc_value p) ≡ xs → flat (drop i new) ≡ xs ++ flat (drop i ps)
one_behind ps new i p xs h put is = ap (λ l. flat (drop i l)) put ∙ ap flat (drop_put ps i p h) ∙ ap (λ l. l ++ flat (drop i ps)) is

length_put : (ps new : List Chunk) (i : ℕ) (p : Chunk) → i ≤ length ps → new ≡ take i ps ++ p ∷ drop i ps → i ≤ length new
length_put ps new i p h put = omega (arith, ap length put, length-append (take i ps) (p ∷ drop i ps), length-take-le i ps h, length-drop i ps, h)

pub two_behind : (ps mid new : List Chunk) (i n : ℕ) (q p : Chunk) (xs : List Member) → i ≤ length ps → mid ≡ take i ps ++ q ∷ drop i ps → new ≡ take i mid ++ p ∷ drop i mid
    → grouped (arc_value q) ≡ drop n xs → grouped (arc_value p) ≡ take n xs → flat (drop i new) ≡ xs ++ flat (drop i ps)
two_behind ps mid new i n q p xs h first second tail head =
    one_behind mid new i p (take n xs) (length_put ps mid i q h first) second head ∙ ap (λ l. take n xs ++ l) (one_behind ps mid i q (drop n xs) h first tail)
    ∙ sym (append_assoc (take n xs) (drop n xs) (flat (drop i ps))) ∙ ap (λ l. l ++ flat (drop i ps)) (take-append-drop n xs)

-- let in at a place, with what stood before it and behind it
pub let_in_flat : (ps new : List Chunk) (i : ℕ) (xs : List Member) → take i new ≡ take i ps → flat (drop i new) ≡ xs ++ flat (drop i ps) → flat new ≡ flat (take i ps) ++ (xs ++ flat (drop i ps))
let_in_flat ps new i xs before behind = flat_cut new i ∙ ap (λ l. flat l ++ flat (drop i new)) before ∙ ap (λ l. flat (take i ps) ++ l) behind

pub slice_end : (xs : List Member) (n : ℕ) → take (length xs - n) (drop n xs) ≡ drop n xs
slice_end xs n = take_all (length xs - n) (drop n xs) (omega (arith, length-drop n xs))

-- let in one after the other at the same place
pub three_flat : (ps one two new : List Chunk) (i : ℕ) (xs before ys behind : List Member) (m : Member) (alone : List Member) → xs ≡ before → ys ≡ behind → take i one ≡ take i ps → flat (drop i one) ≡ ys ++ flat (drop i ps)
    → take i two ≡ take i one → flat (drop i two) ≡ alone ++ flat (drop i one) → alone ≡ m ∷ [] → take i new ≡ take i two → flat (drop i new) ≡ xs ++ flat (drop i two)
    → flat new ≡ flat (take i ps) ++ ((before ++ m ∷ behind) ++ flat (drop i ps))
three_flat ps one two new i xs before ys behind m alone first last b1 d1 b2 d2 is b3 d3 =
    flat_cut new i ∙ ap (λ l. flat l ++ flat (drop i new)) (b3 ∙ b2 ∙ b1)
    ∙ ap (λ l. flat (take i ps) ++ l) (d3 ∙ ap (λ l. xs ++ l) (d2 ∙ ap (λ l. l ++ flat (drop i one)) is ∙ ap (λ l. m ∷ l) d1) ∙ sym (append_assoc xs (m ∷ ys) (flat (drop i ps))))
    ∙ ap (λ l. flat (take i ps) ++ ((l ++ m ∷ ys) ++ flat (drop i ps))) first ∙ ap (λ l. flat (take i ps) ++ ((before ++ m ∷ l) ++ flat (drop i ps))) last

pub filled_two : (ps mid new : List Chunk) (i n : ℕ) (q p : Chunk) (xs : List Member) → mid ≡ take i ps ++ q ∷ drop i ps → new ≡ take i mid ++ p ∷ drop i mid
    → grouped (arc_value q) ≡ drop n xs → grouped (arc_value p) ≡ take n xs → 0 < n → n < length xs → AllFilled ps → AllFilled new
filled_two ps mid new i n q p xs first second tail head some more f =
    filled_let_in mid new i p (take n xs) second head (omega (arith, length-take-le n xs (omega arith))) (filled_let_in ps mid i q (drop n xs) first tail (omega (arith, length-drop n xs)) f)

-- ---- a chunk that is taken out

pub take_rest : (ps : List Chunk) (i : ℕ) → i < length ps → take i (take i ps ++ drop (suc i) ps) ≡ take i ps
take_rest [] i h = absurd (omega arith)
take_rest (p ∷ ps) zero h = refl
take_rest (p ∷ ps) (suc i) h = ap (λ l. p ∷ l) (take_rest ps i (omega arith))

pub drop_rest : (ps : List Chunk) (i : ℕ) → i < length ps → drop i (take i ps ++ drop (suc i) ps) ≡ drop (suc i) ps
drop_rest [] i h = absurd (omega arith)
drop_rest (p ∷ ps) zero h = refl
drop_rest (p ∷ ps) (suc i) h = drop_rest ps i (omega arith)

pub filled_rest : (ps rest : List Chunk) (i : ℕ) → rest ≡ take i ps ++ drop (suc i) ps → AllFilled ps → AllFilled rest
filled_rest ps rest i is f = subst AllFilled (sym is) (filled_append (take i ps) (drop (suc i) ps) (filled_take ps i f) (filled_drop ps (suc i) f))

-- ---- how many

pub counted : (ps : List Chunk) (i : ℕ) (p : Chunk) (v : Group) → i < length ps → p ≡ get_or ps i p → v ≡ arc_value p → length (flat (take (i + 1) ps)) ≡ length (flat (take i ps)) + length (grouped v)
counted ps i p v h is deref =
    ap length (flat_push (take i ps) (take (i + 1) ps) p (grouped v) (take_more ps i p h ∙ ap (λ (q : Chunk). take i ps ++ q ∷ []) (sym is)) (ap grouped (sym deref)))
    ∙ length-append (flat (take i ps)) (grouped v)

pub shared_more : (ps found new : List Chunk) (i : ℕ) (p q : Chunk) → i < length ps → p ≡ get_or ps i p → arc_value q ≡ arc_value p → new ≡ found ++ q ∷ [] → flat found ≡ flat (take i ps) → flat new ≡ flat (take (i + 1) ps)
shared_more ps found new i p q h is same pushed so =
    flat_push found new q (grouped (arc_value p)) pushed (ap grouped same) ∙ ap (λ l. l ++ grouped (arc_value p)) so
    ∙ sym (flat_push (take i ps) (take (i + 1) ps) p (grouped (arc_value p)) (take_more ps i p h ∙ ap (λ (r : Chunk). take i ps ++ r ∷ []) (sym is)) refl)
