-- A chunk of one member in place of another, and an update's members behind one another.
use Rattle.std.proofs.Common.{◌≡◌, ℕ, zero, suc, ◌<◌, ◌+◌, List, [], ◌∷◌, ◌++◌, length, get_or, take, drop, set, Equal, true, refl, sym, ap, ◌∙◌, arith, append_assoc, length-append, subst, add-one}
use Rattle.std.proofs.lemmas.Cmp.{nat_list_cmp_total, tied_itself}
use Rattle.std.specs.Arc.{arc_value}
use Rattle.comm_value.specs.declared.val.Member.{Member}
use Rattle.comm_value.specs.declared.val.Group.{Group}
use Rattle.comm_value.specs.Tree.{Members, no_members, member}
use Rattle.comm_value.specs.View.{tree, members_of, Chunk, grouped, flat, AllFilled}
use Rattle.comm_value.specs.Order.{key_cmp, members_ordered}
use Rattle.comm_value.specs.Merge.{merged}
use Rattle.comm_value.specs.Put.{insert}
use Rattle.comm_value.specs.Search.{AllBelow, IsAbsent}
use Rattle.comm_value.proofs.Keys.{parts, ordered_insert}
use Rattle.comm_value.proofs.ChunkLemmas.{around, insert_chunk, ordered_left, ordered_right}

set_flat : (ps : List Chunk) (i : ℕ) (q : Chunk) → i < length ps → flat (set ps i q) ≡ flat (take i ps) ++ (grouped (arc_value q) ++ flat (drop (suc i) ps))
set_flat [] i q h = absurd (omega arith)
set_flat (p ∷ ps) zero q h = refl
set_flat (p ∷ ps) (suc i) q h =
    ap (λ l. grouped (arc_value p) ++ l) (set_flat ps i q (omega arith)) ∙ sym (append_assoc (grouped (arc_value p)) (flat (take i ps)) (grouped (arc_value q) ++ flat (drop (suc i) ps)))

filled_set : (ps : List Chunk) (i : ℕ) (q : Chunk) → 0 < length (grouped (arc_value q)) → AllFilled ps → AllFilled (set ps i q)
filled_set [] i q some f = f
filled_set (p ∷ ps) zero q some f = (some, f.1)
filled_set (p ∷ ps) (suc i) q some f = (f.0, filled_set ps i q some f.1)

set_length : (ps : List Chunk) (i : ℕ) (d q : Chunk) → length (grouped (arc_value (get_or ps i d))) ≡ length (grouped (arc_value q)) → i < length ps → length (flat (set ps i q)) ≡ length (flat ps)
set_length [] i d q same h = absurd (omega arith)
set_length (p ∷ ps) zero d q same h = omega (arith, same, length-append (grouped (arc_value q)) (flat ps), length-append (grouped (arc_value p)) (flat ps))
set_length (p ∷ ps) (suc i) d q same h =
    omega (arith, set_length ps i d q same (omega arith), length-append (grouped (arc_value p)) (flat (set ps i q)), length-append (grouped (arc_value p)) (flat ps))

same_key : (m x : Member) → x.key ≡ m.key → key_cmp m.key x.key ≡ Equal
same_key m x same = ap (key_cmp m.key) same ∙ tied_itself nat_list_cmp_total m.key

insert_same : (m x : Member) → key_cmp m.key x.key ≡ Equal → insert m.key (tree m.value) (members_of (x ∷ [])) ≡ members_of (m ∷ [])
insert_same m x same = rw same refl

-- ---- the chunk in its place

pub alone_put : (ps new slice : List Chunk) (i : ℕ) (p q c : Chunk) (v w : Group) (s : List ℕ) (x m : Member) → i < length ps → slice ≡ ps → p ≡ get_or ps i p → v ≡ arc_value p → grouped v ≡ x ∷ [] → w ≡ arc_value c → grouped w ≡ m ∷ [] → arc_value q ≡ arc_value c
    → s ≡ m.key → x.key ≡ m.key → new ≡ set ps i q → AllBelow s (flat (take i slice)) → IsAbsent s (flat (drop (i + 1) slice)) → members_of (flat new) ≡ merged (members_of (flat ps)) (members_of (grouped (arc_value c)))
alone_put ps new slice i p q c v w s x m h same is deref one other alone shares key found put below above =
    let b : AllBelow m.key (flat (take i ps)) = rw (same, key) at below in
    let a : IsAbsent m.key (flat (drop (i + 1) ps)) = rw (same, key) at above in
    let mine : grouped (arc_value c) ≡ m ∷ [] = ap grouped (sym other) ∙ alone in
    let made : flat new ≡ flat (take i ps) ++ (m ∷ [] ++ flat (drop (i + 1) ps)) =
    ap flat put ∙ set_flat ps i q h ∙ ap (λ l. flat (take i ps) ++ (l ++ flat (drop (suc i) ps))) (ap grouped shares ∙ mine) ∙ ap (λ n. flat (take i ps) ++ (m ∷ [] ++ flat (drop n ps))) (sym (add-one i)) in
    insert_chunk m.key (tree m.value) (flat ps) (flat (take i ps)) (x ∷ []) (flat (drop (i + 1) ps)) (m ∷ []) (flat new) (around ps i p v (x ∷ []) h is deref (sym one)) b a
    (sym (insert_same m x (same_key m x found))) made
    ∙ ap (λ l. merged (members_of (flat ps)) (members_of l)) (sym mine)

pub alone_length : (ps new : List Chunk) (i : ℕ) (p q c : Chunk) (v w : Group) (x m : Member) → i < length ps → p ≡ get_or ps i p → v ≡ arc_value p → grouped v ≡ x ∷ [] → w ≡ arc_value c → grouped w ≡ m ∷ [] → arc_value q ≡ arc_value c
    → new ≡ set ps i q → length (flat new) ≡ length (flat ps)
alone_length ps new i p q c v w x m h is deref one other alone shares put =
    let before : grouped (arc_value (get_or ps i p)) ≡ x ∷ [] = ap (λ (r : Chunk). grouped (arc_value r)) (sym is) ∙ ap grouped (sym deref) ∙ one in
    let after : grouped (arc_value q) ≡ m ∷ [] = ap grouped (shares ∙ sym other) ∙ alone in
    ap (λ l. length (flat l)) put ∙ set_length ps i p q (ap length before ∙ sym (ap length after)) h

pub alone_filled : (ps new : List Chunk) (i : ℕ) (q c : Chunk) (w : Group) (m : Member) → w ≡ arc_value c → grouped w ≡ m ∷ [] → arc_value q ≡ arc_value c → new ≡ set ps i q → AllFilled ps → AllFilled new
alone_filled ps new i q c w m other alone shares put f =
    let after : grouped (arc_value q) ≡ m ∷ [] = ap grouped (shares ∙ sym other) ∙ alone in
    subst AllFilled (sym put) (filled_set ps i q (omega (arith, ap length after)) f)

-- ---- at the loop over the update's chunks

merged_join : (s : Members) (xs ys : List Member) → merged s (members_of (xs ++ ys)) ≡ merged (merged s (members_of xs)) (members_of ys)
merged_join s [] ys = refl
merged_join s (x ∷ xs) ys = merged_join (insert x.key (tree x.value) s) xs ys

ordered_merged : (s u : Members) → members_ordered s ≡ true → members_ordered u ≡ true → members_ordered (merged s u) ≡ true
ordered_merged s no_members o h = o
ordered_merged s (member k t u) o h =
    let p = parts k t u h in
    ordered_merged (insert k t s) u (ordered_insert k t s p.value o) p.rest

pub chunk_step : (old new : Members) (ms xs ys : List Member) (all : Members) → ms ≡ xs ++ ys → new ≡ merged old (members_of xs) → merged old (members_of ms) ≡ all → merged new (members_of ys) ≡ all
chunk_step old new ms xs ys all is made so = ap (λ m. merged m (members_of ys)) made ∙ sym (merged_join old xs ys) ∙ ap (λ l. merged old (members_of l)) (sym is) ∙ so

pub chunk_order : (old new : Members) (ms xs ys : List Member) → ms ≡ xs ++ ys → new ≡ merged old (members_of xs) → members_ordered old ≡ true → members_ordered (members_of ms) ≡ true → members_ordered new ≡ true
chunk_order old new ms xs ys is made o h = ap members_ordered made ∙ ordered_merged old (members_of xs) o (ordered_left xs ys (ap (λ l. members_ordered (members_of l)) (sym is) ∙ h))

pub rest_order : (ms xs ys : List Member) → ms ≡ xs ++ ys → members_ordered (members_of ms) ≡ true → members_ordered (members_of ys) ≡ true
rest_order ms xs ys is h = ordered_right xs ys (ap (λ l. members_ordered (members_of l)) (sym is) ∙ h)
