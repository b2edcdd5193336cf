-- A chunk among others, and the id that is sought in it.
use Rattle.std.proofs.Common.{◌≡◌, ℕ, ◌<◌, ◌≤◌, ◌+◌, true, List, [], ◌∷◌, ◌++◌, length, get_or, take, drop, Global, Vec, Less, refl, sym, ap, ◌∙◌, arith, subst, add-one}
use Rattle.std.specs.Prelude.{◌==◌, vec_len, Result, Ok, Err, IfOk}
use Rattle.std.proofs.lemmas.Bool.Decides.{nat_tests}
use Rattle.std.specs.Arc.{arc_value}
use Rattle.std.specs.List.Sorted.{IsStrictlySortedBy}
use Rattle.comm_core.specs.Machine.{Name, at, without}
use Rattle.comm_core.specs.Row.{without_all}
use Rattle.comm_core.specs.Tables.{Opens}
use Rattle.comm_core.specs.declared.comm.Comm.{Comm}
use Rattle.comm_versions.specs.Chunks.{CommChunk, comms_in, AllIdsBelow, AllChunksFilled, IsBelowFirst, StartsWithId, IsInOrder, id_cmp, upsert}
use Rattle.comm_versions.proofs.Flat.{opened, flat_cut, first_is}
use Rattle.comm_versions.proofs.Ids.{below_front, put_chunk, without_chunk, at_chunk, put_found, put_absent, without_found}

first_of : (xs : Opens) (x : Name × Comm) → 0 < length xs → x ≡ get_or xs 0 x → xs ≡ x ∷ drop 1 xs
first_of [] x h is = absurd (omega arith)
first_of (y ∷ ys) x h is = ap (λ (z : Name × Comm). z ∷ ys) (sym is)

-- the comms from chunk i on, the first of which is x
from_first : (ps : List CommChunk) (i : ℕ) (p : CommChunk) (v : Vec (Name × Comm) Global) (xs : Opens) (x : Name × Comm) → i < length ps → p ≡ get_or ps i p → v ≡ arc_value p → xs ≡ v.items → 0 < length xs → x ≡ get_or xs 0 x
    → comms_in (drop i ps) ≡ x ∷ (drop 1 xs ++ comms_in (drop (i + 1) ps))
from_first ps i p v xs x h is deref items some here = opened ps i p v xs h is deref items ∙ ap (λ l. l ++ comms_in (drop (i + 1) ps)) (first_of xs x some here)

pub absent_from : (k : Name) (ps : List CommChunk) (i : ℕ) (p : CommChunk) (v : Vec (Name × Comm) Global) (xs : Opens) (x : Name × Comm) → i < length ps → p ≡ get_or ps i p → v ≡ arc_value p → xs ≡ v.items → 0 < length xs → x ≡ get_or xs 0 x
    → id_cmp k x.0 ≡ Less → IsBelowFirst k (comms_in (drop i ps))
absent_from k ps i p v xs x h is deref items some here less = subst (IsBelowFirst k) (sym (from_first ps i p v xs x h is deref items some here)) less

pub below_from : (k : Name) (ps : List CommChunk) (i : ℕ) (p : CommChunk) (v : Vec (Name × Comm) Global) (xs : Opens) (x : Name × Comm) → i < length ps → p ≡ get_or ps i p → v ≡ arc_value p → xs ≡ v.items → 0 < length xs → x ≡ get_or xs 0 x
    → IsInOrder (comms_in ps) → (id_cmp k x.0 ≡ Less → ⊥) → AllIdsBelow k (comms_in (take i ps))
below_from k ps i p v xs x h is deref items some here o more =
    let cut : comms_in ps ≡ comms_in (take i ps) ++ x ∷ (drop 1 xs ++ comms_in (drop (i + 1) ps)) = flat_cut ps i ∙ ap (λ l. comms_in (take i ps) ++ l) (from_first ps i p v xs x h is deref items some here) in
    below_front k (comms_in (take i ps)) x (drop 1 xs ++ comms_in (drop (i + 1) ps)) (subst IsInOrder cut o) more

pub around : (ps : List CommChunk) (i : ℕ) (p : CommChunk) (v : Vec (Name × Comm) Global) (xs : Opens) → i < length ps → p ≡ get_or ps i p → v ≡ arc_value p → xs ≡ v.items → comms_in ps ≡ comms_in (take i ps) ++ (xs ++ comms_in (drop (i + 1) ps))
around ps i p v xs h is deref items = flat_cut ps i ∙ ap (λ l. comms_in (take i ps) ++ l) (opened ps i p v xs h is deref items)

none_of : (es : Opens) → length es ≡ 0 → es ≡ []
none_of [] h = refl
none_of (e ∷ es) h = absurd (omega arith)

pub empty_items : (xs : Vec (Name × Comm) Global) → true ≡ (vec_len xs == 0) → xs.items ≡ []
empty_items xs h =
    let none : vec_len xs ≡ 0 = grind (arith, nat_tests) in none_of xs.items (omega arith)

pub nothing : AllChunksFilled [] × IsInOrder (comms_in [])
unfolding IsStrictlySortedBy
nothing = (tt, tt)

-- ---- a chunk that is changed

pub if_ok : {T E : Type 0} (P Q : T → Type 0) (r : Result T E) → ((x : T) → P x → Q x) → IfOk r P → IfOk r Q
if_ok P Q (Ok x) f h = f x h
if_ok P Q (Err e) f h = tt

-- the id stands in this chunk, or would
pub record Stands (ps : List CommChunk) (i : ℕ) (xs : Opens) (k : Name) : Type 0 where
  pub around_it : comms_in ps ≡ comms_in (take i ps) ++ (xs ++ comms_in (drop (i + 1) ps))
  pub below : AllIdsBelow k (comms_in (take i ps))
  pub above : IsBelowFirst k (comms_in (drop (i + 1) ps))

pub stands : (slice ps : List CommChunk) (i : ℕ) (xs : Opens) (k l : Name) → slice ≡ ps → k ≡ l → comms_in slice ≡ comms_in (take i slice) ++ (xs ++ comms_in (drop (i + 1) slice)) → AllIdsBelow k (comms_in (take i slice)) → IsBelowFirst k (comms_in (drop (i + 1) slice))
    → Stands ps i xs l
stands slice ps i xs k l same text cut b a =
    subst (λ p. Stands p i xs l) same (subst (λ t. Stands slice i xs t) text (record { around_it = cut; below = b; above = a }))

pub put_set : (ps : List CommChunk) (i : ℕ) (xs changed new : Opens) (c : Name × Comm) → Stands ps i xs c.0 → changed ≡ upsert xs c → new ≡ comms_in (take i ps) ++ (changed ++ comms_in (drop (i + 1) ps)) → new ≡ upsert (comms_in ps) c
put_set ps i xs changed new c s is made =
    made ∙ ap (λ l. comms_in (take i ps) ++ (l ++ comms_in (drop (i + 1) ps))) is ∙ put_chunk (comms_in ps) (comms_in (take i ps)) xs (comms_in (drop (i + 1) ps)) c s.around_it s.below s.above

pub out_set : (ps : List CommChunk) (i : ℕ) (xs changed new : Opens) (k : Name) → IsInOrder (comms_in ps) → Stands ps i xs k → changed ≡ without xs k → new ≡ comms_in (take i ps) ++ (changed ++ comms_in (drop (i + 1) ps)) → new ≡ without (comms_in ps) k
out_set ps i xs changed new k o s is made =
    made ∙ ap (λ l. comms_in (take i ps) ++ (l ++ comms_in (drop (i + 1) ps))) is ∙ without_chunk (comms_in ps) (comms_in (take i ps)) xs (comms_in (drop (i + 1) ps)) k s.around_it o s.below s.above

pub at_here : (ps : List CommChunk) (i : ℕ) (xs : Opens) (k : Name) → IsInOrder (comms_in ps) → Stands ps i xs k → at xs k ≡ at (comms_in ps) k
at_here ps i xs k o s = at_chunk (comms_in ps) (comms_in (take i ps)) xs (comms_in (drop (i + 1) ps)) k s.around_it o s.below s.above

-- the index as it is counted here and there
pub found_out : (xs : Opens) (j : ℕ) (k : Name) (left : Opens) → (j < length xs) × AllIdsBelow k (take j xs) × StartsWithId k (drop j xs) → left ≡ take j xs ++ drop (j + 1) xs → left ≡ without xs k
found_out xs j k left f is = is ∙ ap (λ n. take j xs ++ drop n xs) (add-one j) ∙ sym (without_found xs j k f.0 f.1 f.2)

pub found_put : (xs : Opens) (j : ℕ) (s : Name) (c : Name × Comm) (new : Opens) → s ≡ c.0 → (j < length xs) × AllIdsBelow s (take j xs) × StartsWithId s (drop j xs) → new ≡ take j xs ++ c ∷ drop (j + 1) xs → new ≡ upsert xs c
found_put xs j s c new same f is =
    let g : (j < length xs) × AllIdsBelow c.0 (take j xs) × StartsWithId c.0 (drop j xs) = rw same at f in is ∙ ap (λ n. take j xs ++ c ∷ drop n xs) (add-one j) ∙ sym (put_found xs j c g.0 g.1 g.2)

pub absent_put : (xs : Opens) (j : ℕ) (s : Name) (c : Name × Comm) (new : Opens) → s ≡ c.0 → (j ≤ length xs) × AllIdsBelow s (take j xs) × IsBelowFirst s (drop j xs) → new ≡ take j xs ++ c ∷ drop j xs → new ≡ upsert xs c
absent_put xs j s c new same f is =
    let g : (j ≤ length xs) × AllIdsBelow c.0 (take j xs) × IsBelowFirst c.0 (drop j xs) = rw same at f in is ∙ sym (put_absent xs j c g.0 g.1 g.2)

-- ---- ids that are taken out one after another

pub one_out : (ids : List Name) (i : ℕ) (id : Name) (es new : Opens) → i < length ids → id ≡ get_or ids i id → new ≡ without es id → without_all (drop (i + 1) ids) new ≡ without_all (drop i ids) es
one_out ids i id es new h is out = ap (without_all (drop (i + 1) ids)) out ∙ ap (λ l. without_all l es) (sym (first_is ids i id h is))
