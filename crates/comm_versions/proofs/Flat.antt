-- Comms in chunks.
use Rattle.std.proofs.Common.{◌≡◌, ℕ, zero, suc, ◌<◌, ◌≤◌, ◌+◌, List, [], ◌∷◌, ◌++◌, length, get_or, take, drop, set, Global, Vec, refl, sym, ap, ◌∙◌, arith, append_assoc, append-nil, length-append, length-drop, length-take-le, take-append-drop, subst, add-one}
use Rattle.std.proofs.Math.Seq.{drop-cons}
use Rattle.std.proofs.lemmas.List.{take_more, take-set, drop-set}
use Rattle.std.specs.Prelude.{◌==◌, false, vec_len}
use Rattle.std.specs.Arc.{arc_value}
use Rattle.comm_core.specs.Machine.{Name}
use Rattle.comm_core.specs.Tables.{Opens}
use Rattle.comm_core.specs.declared.comm.Comm.{Comm}
use Rattle.comm_versions.specs.Chunks.{CommChunk, comms_in, AllChunksFilled}

pub first_is : {X : Type 0} (xs : List X) (i : ℕ) (x : X) → i < length xs → x ≡ get_or xs i x → drop i xs ≡ x ∷ drop (i + 1) xs
first_is {X} xs i x h is = rw add-one (drop-cons xs i x h ∙ ap (λ (y : X). y ∷ drop (suc i) xs) (sym is))

pub flat_append : (ps qs : List CommChunk) → comms_in (ps ++ qs) ≡ comms_in ps ++ comms_in qs
flat_append [] qs = refl
flat_append (p ∷ ps) qs = ap (λ l. (arc_value p).items ++ l) (flat_append ps qs) ∙ sym (append_assoc (arc_value p).items (comms_in ps) (comms_in qs))

pub flat_cut : (ps : List CommChunk) (i : ℕ) → comms_in ps ≡ comms_in (take i ps) ++ comms_in (drop i ps)
flat_cut ps i = ap comms_in (sym (take-append-drop i ps)) ∙ flat_append (take i ps) (drop i ps)

-- one more chunk, of these comms
pub flat_push : (ps new : List CommChunk) (p : CommChunk) (xs : Opens) → new ≡ ps ++ p ∷ [] → (arc_value p).items ≡ xs → comms_in new ≡ comms_in ps ++ xs
flat_push ps new p xs pushed is = ap comms_in pushed ∙ flat_append ps (p ∷ []) ∙ ap (λ l. comms_in ps ++ l) (append-nil (arc_value p).items ∙ is)

-- ---- at the loops over chunks, and over the comms of one

pub opened : (ps : List CommChunk) (i : ℕ) (p : CommChunk) (v : Vec (Name × Comm) Global) (xs : Opens) → i < length ps → p ≡ get_or ps i p → v ≡ arc_value p → xs ≡ v.items → comms_in (drop i ps) ≡ xs ++ comms_in (drop (i + 1) ps)
opened ps i p v xs h is deref items =
    ap comms_in (first_is ps i p h is) ∙ ap (λ l. l ++ comms_in (drop (i + 1) ps)) (sym (items ∙ ap (λ (w : Vec (Name × Comm) Global). w.items) deref))

-- ---- chunks that have comms

pub filled_append : (ps qs : List CommChunk) → AllChunksFilled ps → AllChunksFilled qs → AllChunksFilled (ps ++ qs)
filled_append [] qs f g = g
filled_append (p ∷ ps) qs f g = (f.0, filled_append ps qs f.1 g)

pub filled_take : (ps : List CommChunk) (i : ℕ) → AllChunksFilled ps → AllChunksFilled (take i ps)
filled_take [] zero f = tt
filled_take [] (suc i) f = tt
filled_take (p ∷ ps) zero f = tt
filled_take (p ∷ ps) (suc i) f = (f.0, filled_take ps i f.1)

pub filled_drop : (ps : List CommChunk) (i : ℕ) → AllChunksFilled ps → AllChunksFilled (drop i ps)
filled_drop [] zero f = tt
filled_drop [] (suc i) f = tt
filled_drop (p ∷ ps) zero f = f
filled_drop (p ∷ ps) (suc i) f = filled_drop ps i f.1

pub filled_push : (ps new : List CommChunk) (p : CommChunk) (xs : Opens) → new ≡ ps ++ p ∷ [] → (arc_value p).items ≡ xs → 0 < length xs → AllChunksFilled ps → AllChunksFilled new
filled_push ps new p xs pushed is some f = subst AllChunksFilled (sym pushed) (filled_append ps (p ∷ []) f (omega (arith, some, ap length is), tt))

pub filled_at : (ps : List CommChunk) (i : ℕ) (d : CommChunk) → i < length ps → AllChunksFilled ps → 0 < length (arc_value (get_or ps i d)).items
filled_at [] i d h f = absurd (omega arith)
filled_at (p ∷ ps) zero d h f = f.0
filled_at (p ∷ ps) (suc i) d h f = filled_at ps i d (omega arith) f.1

not_zero : (n : ℕ) → false ≡ (n == 0) → 0 < n
not_zero zero h = cc
not_zero (suc n) h = omega arith

pub not_empty : (xs : Vec (Name × Comm) Global) → false ≡ (vec_len xs == 0) → 0 < length xs.items
not_empty xs h = omega (arith, not_zero (vec_len xs) h)

-- ---- comms let in at a place

pub filled_let_in : (ps new : List CommChunk) (i : ℕ) (p : CommChunk) (xs : Opens) → new ≡ take i ps ++ p ∷ drop i ps → (arc_value p).items ≡ xs → 0 < length xs → AllChunksFilled ps → AllChunksFilled new
filled_let_in ps new i p xs upsert is some f =
    subst AllChunksFilled (sym upsert) (filled_append (take i ps) (p ∷ drop i ps) (filled_take ps i f) (omega (arith, some, ap length is), filled_drop ps i f))

pub filled_items : (ps : List CommChunk) (i : ℕ) (p : CommChunk) (v : Vec (Name × Comm) Global) (xs : Opens) → i < length ps → p ≡ get_or ps i p → v ≡ arc_value p → xs ≡ v.items → AllChunksFilled ps → 0 < length xs
filled_items ps i p v xs h is deref items f =
    let same : xs ≡ (arc_value (get_or ps i p)).items = items ∙ ap (λ (w : Vec (Name × Comm) Global). w.items) deref ∙ ap (λ (q : CommChunk). (arc_value q).items) is in
    omega (arith, filled_at ps i p h f, ap length same)

-- ---- a chunk that was cut in two

take_put : (ps : List CommChunk) (i : ℕ) (q : CommChunk) → i ≤ length ps → take i (take i ps ++ q ∷ drop i ps) ≡ take i ps
take_put [] zero q h = refl
take_put [] (suc i) q h = absurd (omega arith)
take_put (p ∷ ps) zero q h = refl
take_put (p ∷ ps) (suc i) q h = ap (λ l. p ∷ l) (take_put ps i q (omega arith))

drop_put : (ps : List CommChunk) (i : ℕ) (q : CommChunk) → i ≤ length ps → drop i (take i ps ++ q ∷ drop i ps) ≡ q ∷ drop i ps
drop_put [] zero q h = refl
drop_put [] (suc i) q h = absurd (omega arith)
drop_put (p ∷ ps) zero q h = refl
drop_put (p ∷ ps) (suc i) q h = drop_put ps i q (omega arith)

-- the comms of the chunks behind the place, once these are let in
pub one_behind : (ps new : List CommChunk) (i : ℕ) (p : CommChunk) (xs : Opens) → i ≤ length ps → new ≡ take i ps ++ p ∷ drop i ps → (arc_value p).items ≡ xs → comms_in (drop i new) ≡ xs ++ comms_in (drop i ps)
one_behind ps new i p xs h upsert is = ap (λ l. comms_in (drop i l)) upsert ∙ ap comms_in (drop_put ps i p h) ∙ ap (λ l. l ++ comms_in (drop i ps)) is

length_put : (ps new : List CommChunk) (i : ℕ) (p : CommChunk) → i ≤ length ps → new ≡ take i ps ++ p ∷ drop i ps → i ≤ length new
length_put ps new i p h upsert = omega (arith, ap length upsert, length-append (take i ps) (p ∷ drop i ps), length-take-le i ps h, length-drop i ps, h)

pub two_behind : (ps mid new : List CommChunk) (i n : ℕ) (q p : CommChunk) (xs : Opens) → i ≤ length ps → mid ≡ take i ps ++ q ∷ drop i ps → new ≡ take i mid ++ p ∷ drop i mid
    → (arc_value q).items ≡ drop n xs → (arc_value p).items ≡ take n xs → comms_in (drop i new) ≡ xs ++ comms_in (drop i ps)
two_behind ps mid new i n q p xs h first second tail head =
    one_behind mid new i p (take n xs) (length_put ps mid i q h first) second head ∙ ap (λ l. take n xs ++ l) (one_behind ps mid i q (drop n xs) h first tail)
    ∙ sym (append_assoc (take n xs) (drop n xs) (comms_in (drop i ps))) ∙ ap (λ l. l ++ comms_in (drop i ps)) (take-append-drop n xs)

-- let in at a place, with what stood before it and behind it
pub let_in_flat : (ps new : List CommChunk) (i : ℕ) (xs : Opens) → take i new ≡ take i ps → comms_in (drop i new) ≡ xs ++ comms_in (drop i ps) → comms_in new ≡ comms_in (take i ps) ++ (xs ++ comms_in (drop i ps))
let_in_flat ps new i xs before behind = flat_cut new i ∙ ap (λ l. comms_in l ++ comms_in (drop i new)) before ∙ ap (λ l. comms_in (take i ps) ++ l) behind

pub filled_two : (ps mid new : List CommChunk) (i n : ℕ) (q p : CommChunk) (xs : Opens) → mid ≡ take i ps ++ q ∷ drop i ps → new ≡ take i mid ++ p ∷ drop i mid
    → (arc_value q).items ≡ drop n xs → (arc_value p).items ≡ take n xs → 0 < n → n < length xs → AllChunksFilled ps → AllChunksFilled new
filled_two ps mid new i n q p xs first second tail head some more f =
    filled_let_in mid new i p (take n xs) second head (omega (arith, length-take-le n xs (omega arith))) (filled_let_in ps mid i q (drop n xs) first tail (omega (arith, length-drop n xs)) f)

-- ---- a chunk that is taken out

pub take_rest : (ps : List CommChunk) (i : ℕ) → i < length ps → take i (take i ps ++ drop (suc i) ps) ≡ take i ps
take_rest [] i h = absurd (omega arith)
take_rest (p ∷ ps) zero h = refl
take_rest (p ∷ ps) (suc i) h = ap (λ l. p ∷ l) (take_rest ps i (omega arith))

pub drop_rest : (ps : List CommChunk) (i : ℕ) → i < length ps → drop i (take i ps ++ drop (suc i) ps) ≡ drop (suc i) ps
drop_rest [] i h = absurd (omega arith)
drop_rest (p ∷ ps) zero h = refl
drop_rest (p ∷ ps) (suc i) h = drop_rest ps i (omega arith)

pub filled_rest : (ps rest : List CommChunk) (i : ℕ) → rest ≡ take i ps ++ drop (suc i) ps → AllChunksFilled ps → AllChunksFilled rest
filled_rest ps rest i is f = subst AllChunksFilled (sym is) (filled_append (take i ps) (drop (suc i) ps) (filled_take ps i f) (filled_drop ps (suc i) f))

pub shared_more : (ps found new : List CommChunk) (i : ℕ) (p q : CommChunk) → i < length ps → p ≡ get_or ps i p → arc_value q ≡ arc_value p → new ≡ found ++ q ∷ [] → comms_in found ≡ comms_in (take i ps) → comms_in new ≡ comms_in (take (i + 1) ps)
shared_more ps found new i p q h is same pushed so =
    flat_push found new q (arc_value p).items pushed (ap (λ (w : Vec (Name × Comm) Global). w.items) same) ∙ ap (λ l. l ++ (arc_value p).items) so
    ∙ sym (flat_push (take i ps) (take (i + 1) ps) p (arc_value p).items (take_more ps i p h ∙ ap (λ (r : CommChunk). take i ps ++ r ∷ []) (sym is)) refl)

-- ---- a chunk that is replaced

-- the chunks before the place and behind it, once the one there is out
rest_flat : (ps rest : List CommChunk) (i : ℕ) (new xs : Opens) → i < length ps → rest ≡ take i ps ++ drop (suc i) ps → new ≡ comms_in (take i rest) ++ (xs ++ comms_in (drop i rest))
    → new ≡ comms_in (take i ps) ++ (xs ++ comms_in (drop (i + 1) ps))
rest_flat ps rest i new xs h out is =
    is ∙ ap (λ l. comms_in l ++ (xs ++ comms_in (drop i rest))) (ap (take i) out ∙ take_rest ps i h)
    ∙ ap (λ l. comms_in (take i ps) ++ (xs ++ comms_in l)) (ap (drop i) out ∙ drop_rest ps i h ∙ ap (λ n. drop n ps) (sym (add-one i)))

pub none_set : (ps rest : List CommChunk) (i : ℕ) (xs : Opens) → i < length ps → rest ≡ take i ps ++ drop (suc i) ps → xs ≡ [] → comms_in rest ≡ comms_in (take i ps) ++ (xs ++ comms_in (drop (i + 1) ps))
none_set ps rest i xs h out none = rest_flat ps rest i (comms_in rest) xs h out (flat_cut rest i ∙ ap (λ l. comms_in (take i rest) ++ (l ++ comms_in (drop i rest))) (sym none))

within_rest : (ps rest : List CommChunk) (i : ℕ) → i < length ps → rest ≡ take i ps ++ drop (suc i) ps → i ≤ length rest
within_rest ps rest i h out = omega (arith, ap length out, length-append (take i ps) (drop (suc i) ps), length-take-le i ps (omega arith))

pub one_set : (ps rest new : List CommChunk) (i : ℕ) (p : CommChunk) (xs : Opens) → i < length ps → rest ≡ take i ps ++ drop (suc i) ps → new ≡ take i rest ++ p ∷ drop i rest → (arc_value p).items ≡ xs
    → comms_in new ≡ comms_in (take i ps) ++ (xs ++ comms_in (drop (i + 1) ps))
one_set ps rest new i p xs h out upsert is =
    let within = within_rest ps rest i h out in
    rest_flat ps rest i (comms_in new) xs h out (let_in_flat rest new i xs (ap (take i) upsert ∙ take_put rest i p within) (one_behind rest new i p xs within upsert is))

pub two_set : (ps rest mid new : List CommChunk) (i n : ℕ) (q p : CommChunk) (xs : Opens) → i < length ps → rest ≡ take i ps ++ drop (suc i) ps → mid ≡ take i rest ++ q ∷ drop i rest → new ≡ take i mid ++ p ∷ drop i mid
    → (arc_value q).items ≡ drop n xs → (arc_value p).items ≡ take n xs → comms_in new ≡ comms_in (take i ps) ++ (xs ++ comms_in (drop (i + 1) ps))
two_set ps rest mid new i n q p xs h out first second tail head =
    let within = within_rest ps rest i h out in
    let longer = length_put rest mid i q within first in
    rest_flat ps rest i (comms_in new) xs h out
    (let_in_flat rest new i xs (ap (take i) second ∙ take_put mid i p longer ∙ (ap (take i) first ∙ take_put rest i q within)) (two_behind rest mid new i n q p xs within first second tail head))

-- ---- two chunks that become one

drop_behind : (ps : List CommChunk) (i : ℕ) → i < length ps → drop (suc i) (take i ps ++ drop (suc i) ps) ≡ drop (suc (suc i)) ps
drop_behind [] i h = absurd (omega arith)
drop_behind (p ∷ ps) zero h = refl
drop_behind (p ∷ ps) (suc i) h = drop_behind ps i (omega arith)

pub both_flat : (slice ps rest : List CommChunk) (i : ℕ) (p q : CommChunk) (v w : Vec (Name × Comm) Global) (xs ys both new : Opens) → slice ≡ ps → i + 1 < length slice
    → p ≡ get_or slice i p → v ≡ arc_value p → xs ≡ v.items → q ≡ get_or slice (i + 1) q → w ≡ arc_value q → ys ≡ w.items → rest ≡ take i ps ++ drop (suc i) ps → both ≡ xs ++ ys
    → new ≡ comms_in (take i rest) ++ (both ++ comms_in (drop (i + 1) rest)) → new ≡ comms_in ps
both_flat slice ps rest i p q v w xs ys both new same h is deref items is' deref' items' out joined made =
    let first : comms_in (drop i slice) ≡ xs ++ comms_in (drop (i + 1) slice) = opened slice i p v xs (omega arith) is deref items in
    let second : comms_in (drop (i + 1) slice) ≡ ys ++ comms_in (drop (i + 1 + 1) slice) = opened slice (i + 1) q w ys h is' deref' items' in
    let within : i < length ps = omega (arith, ap length same) in
    let before : take i rest ≡ take i ps = ap (take i) out ∙ take_rest ps i within in
    let after : drop (i + 1) rest ≡ drop (i + 1 + 1) ps = ap (λ n. drop n rest) (add-one i) ∙ ap (drop (suc i)) out ∙ drop_behind ps i within ∙ ap (λ n. drop n ps) (sym (add-one (i + 1) ∙ ap suc (add-one i))) in
    let whole : comms_in slice ≡ comms_in (take i slice) ++ ((xs ++ ys) ++ comms_in (drop (i + 1 + 1) slice)) =
    flat_cut slice i ∙ ap (λ l. comms_in (take i slice) ++ l) (first ∙ ap (λ l. xs ++ l) second ∙ sym (append_assoc xs ys (comms_in (drop (i + 1 + 1) slice)))) in
    made ∙ ap (λ l. comms_in l ++ (both ++ comms_in (drop (i + 1) rest))) before ∙ ap (λ l. comms_in (take i ps) ++ (l ++ comms_in (drop (i + 1) rest))) joined
    ∙ ap (λ l. comms_in (take i ps) ++ ((xs ++ ys) ++ comms_in l)) after ∙ sym (subst (λ l. comms_in l ≡ comms_in (take i l) ++ ((xs ++ ys) ++ comms_in (drop (i + 1 + 1) l))) same whole)

-- ---- a chunk that is changed in its place

pub set_flat : (ps : List CommChunk) (i : ℕ) (q : CommChunk) → i < length ps → comms_in (set ps i q) ≡ comms_in (take i ps) ++ ((arc_value q).items ++ comms_in (drop (i + 1) ps))
set_flat ps i q h = flat_cut (set ps i q) i ∙ ap (λ l. comms_in l ++ comms_in (drop i (set ps i q))) (take-set ps i q) ∙ ap (λ l. comms_in (take i ps) ++ comms_in l) (drop-set ps i q h)

pub filled_set : (ps : List CommChunk) (i : ℕ) (q : CommChunk) → 0 < length (arc_value q).items → AllChunksFilled ps → AllChunksFilled (set ps i q)
filled_set [] i q some f = f
filled_set (p ∷ ps) zero q some f = (some, f.1)
filled_set (p ∷ ps) (suc i) q some f = (f.0, filled_set ps i q some f.1)
