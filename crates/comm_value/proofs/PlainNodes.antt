-- What stands where in a value without its bytes.
use Rattle.std.proofs.Common.{◌≡◌, ℕ, zero, suc, ◌+◌, List, [], ◌∷◌, ◌++◌, Bool, true, false, cond, not, refl, sym, ap, ◌∙◌}
use Rattle.std.specs.List.{filter}
use Rattle.std.specs.Prelude.{Option, Some, None, option_map, option_and_then}
use Rattle.std.specs.Ordering.{is_eq}
use Rattle.comm_value.specs.declared.path.Step.{Step}
use Rattle.comm_value.specs.declared.path.Step.TheVariants.{Key, Index}
use Rattle.comm_value.specs.Tree.{Tree, null, boolean, whole, decimal, text, bytes, list, dict, Items, no_items, item, Members, no_members, member}
use Rattle.comm_value.specs.Node.{Path, Shape, list_of, dict_with, shape, node, at, child, get, get_item, keys, count}
use Rattle.comm_value.specs.Order.{key_cmp, is_ordered, items_ordered, members_ordered}
use Rattle.comm_value.specs.Places.{plain, plain_item, plain_items, plain_members, is_buffer}
use Rattle.comm_value.specs.Plain.{are_bytes, is_place, instead_of_bytes, with_keys}
use Rattle.comm_value.proofs.Keys.{parts, both}
use Rattle.comm_value.proofs.SameNodes.{past_head, some_same, only_head}
use Rattle.comm_value.proofs.PlainLemmas.{item_plain, member_kept, member_gone}
use Rattle.comm_value.proofs.PlaceLaws.{AllGot, all_got}
use Rattle.comm_value.proofs.PutNodes.{none_some}
use Rattle.comm_value.proofs.RoundTrip.{plain_kept}

-- what becomes of what stands at a step
abbrev kept : Step → Tree → Option Tree
kept (Key k) c = cond (is_buffer c) None (Some (plain c))
kept (Index n) c = Some (plain_item c)

kept_plain : (s : Step) (c : Tree) → is_buffer c ≡ false → kept s c ≡ Some (plain c)
kept_plain (Key k) c h = rw h refl
kept_plain (Index n) c h = ap Some (plain_kept c h)

-- ---- one step

item_at : (n : ℕ) (ts : Items) → get_item n (plain_items ts) ≡ option_and_then (kept (Index n)) (get_item n ts)
item_at n no_items = refl
item_at zero (item t ts) = ap (get_item zero) (item_plain t ts)
item_at (suc n) (item t ts) = ap (get_item (suc n)) (item_plain t ts) ∙ item_at n ts

member_case : (k l : List ℕ) (t : Tree) (ms : Members) (x b : Bool) → is_eq (key_cmp k l) ≡ x → is_buffer t ≡ b → members_ordered (member l t ms) ≡ true
    → get k (plain_members ms) ≡ option_and_then (kept (Key k)) (get k ms) → get k (plain_members (member l t ms)) ≡ option_and_then (kept (Key k)) (cond x (Some t) (get k ms))
member_case k l t ms true true e i o h =
    ap (get k) (member_gone l t ms i) ∙ h ∙ ap (option_and_then (kept (Key k))) (only_head k l t ms o e) ∙ sym (ap (λ c. cond c None (Some (plain t))) i)
member_case k l t ms true false e i o h =
    ap (get k) (member_kept l t ms i) ∙ ap (λ c. cond c (Some (plain t)) (get k (plain_members ms))) e ∙ sym (ap (λ c. cond c None (Some (plain t))) i)
member_case k l t ms false true e i o h = ap (get k) (member_gone l t ms i) ∙ h
member_case k l t ms false false e i o h = ap (get k) (member_kept l t ms i) ∙ past_head k l (plain t) (plain_members ms) e ∙ h

member_at : (k : List ℕ) (ms : Members) → members_ordered ms ≡ true → get k (plain_members ms) ≡ option_and_then (kept (Key k)) (get k ms)
member_at k no_members o = refl
member_at k (member l t ms) o = member_case k l t ms (is_eq (key_cmp k l)) (is_buffer t) refl refl o (member_at k ms (parts l t ms o).rest)

child_plain : (s : Step) (t : Tree) → is_ordered t ≡ true → child s (plain t) ≡ option_and_then (kept s) (child s t)
child_plain (Key k) (dict ms) o = member_at k ms o
child_plain (Index n) (list ts) o = item_at n ts
child_plain (Key k) null o = refl
child_plain (Key k) (boolean b) o = refl
child_plain (Key k) (whole z) o = refl
child_plain (Key k) (decimal s) o = refl
child_plain (Key k) (text s) o = refl
child_plain (Key k) (bytes b) o = refl
child_plain (Key k) (list ts) o = refl
child_plain (Index n) null o = refl
child_plain (Index n) (boolean b) o = refl
child_plain (Index n) (whole z) o = refl
child_plain (Index n) (decimal s) o = refl
child_plain (Index n) (text s) o = refl
child_plain (Index n) (bytes b) o = refl
child_plain (Index n) (dict ms) o = refl

item_ordered : (n : ℕ) (ts : Items) (c : Tree) → items_ordered ts ≡ true → get_item n ts ≡ Some c → is_ordered c ≡ true
item_ordered n no_items c o h = absurd (none_some h)
item_ordered zero (item t ts) c o h = ap is_ordered (sym (some_same h)) ∙ (both (is_ordered t) (items_ordered ts) o).0
item_ordered (suc n) (item t ts) c o h = item_ordered n ts c (both (is_ordered t) (items_ordered ts) o).1 h

got_ordered : (x : Bool) (t c : Tree) (rest : Option Tree) → is_ordered t ≡ true → (rest ≡ Some c → is_ordered c ≡ true) → cond x (Some t) rest ≡ Some c → is_ordered c ≡ true
got_ordered true t c rest o f h = ap is_ordered (sym (some_same h)) ∙ o
got_ordered false t c rest o f h = f h

member_ordered : (k : List ℕ) (ms : Members) (c : Tree) → members_ordered ms ≡ true → get k ms ≡ Some c → is_ordered c ≡ true
member_ordered k no_members c o h = absurd (none_some h)
member_ordered k (member l t ms) c o h =
    let p = parts l t ms o in got_ordered (is_eq (key_cmp k l)) t c (get k ms) p.value (λ e. member_ordered k ms c p.rest e) h

pub child_ordered : (s : Step) (t c : Tree) → is_ordered t ≡ true → child s t ≡ Some c → is_ordered c ≡ true
child_ordered (Key k) (dict ms) c o h = member_ordered k ms c o h
child_ordered (Key k) t c o h = absurd (none_some h)
child_ordered (Index n) (list ts) c o h = item_ordered n ts c o h
child_ordered (Index n) t c o h = absurd (none_some h)

-- ---- the whole path

-- the node at a path below a step
abbrev found : Path → Option Tree → Option Shape
found p o = option_map shape (option_and_then (at p) o)

-- a node that keeps the keys that lead to no bytes
abbrev rest_of : Path → Option Tree → Option Shape
rest_of q o = option_map (with_keys (λ k. not (are_bytes (found (q ++ Key k ∷ []) o)))) (found q o)

shape_buffer : (t : Tree) → are_bytes (Some (shape t)) ≡ is_buffer t
shape_buffer null = refl
shape_buffer (boolean b) = refl
shape_buffer (whole z) = refl
shape_buffer (decimal s) = refl
shape_buffer (text s) = refl
shape_buffer (bytes b) = refl
shape_buffer (list ts) = refl
shape_buffer (dict ms) = refl

count_plain : (ts : Items) → count (plain_items ts) ≡ count ts
count_plain no_items = refl
count_plain (item t ts) = ap count (item_plain t ts) ∙ ap (λ n. n + 1) (count_plain ts)

abbrev is_kept : Members → List ℕ → Bool
is_kept all k = not (are_bytes (found [] (get k all)))

key_case : (all : Members) (k : List ℕ) (t : Tree) (ms : Members) (b : Bool) → is_buffer t ≡ b → get k all ≡ Some t → keys (plain_members ms) ≡ filter (is_kept all) (keys ms)
    → keys (plain_members (member k t ms)) ≡ cond (is_kept all k) (k ∷ filter (is_kept all) (keys ms)) (filter (is_kept all) (keys ms))
key_case all k t ms true e g h =
    let test : is_kept all k ≡ false = ap (λ o. not (are_bytes (found [] o))) g ∙ ap not (shape_buffer t ∙ e) in
    ap keys (member_gone k t ms e) ∙ h ∙ sym (ap (λ c. cond c (k ∷ filter (is_kept all) (keys ms)) (filter (is_kept all) (keys ms))) test)
key_case all k t ms false e g h =
    let test : is_kept all k ≡ true = ap (λ o. not (are_bytes (found [] o))) g ∙ ap not (shape_buffer t ∙ e) in
    ap keys (member_kept k t ms e) ∙ ap (λ ks. k ∷ ks) h ∙ sym (ap (λ c. cond c (k ∷ filter (is_kept all) (keys ms)) (filter (is_kept all) (keys ms))) test)

keys_plain : (all ms : Members) → AllGot all ms → keys (plain_members ms) ≡ filter (is_kept all) (keys ms)
keys_plain all no_members g = refl
keys_plain all (member k t ms) g = key_case all k t ms (is_buffer t) refl g.0 (keys_plain all ms g.1)

here : (t : Tree) → is_ordered t ≡ true → is_place t [] ≡ false → node (plain t) [] ≡ rest_of [] (Some t)
here null o h = refl
here (boolean b) o h = refl
here (whole z) o h = refl
here (decimal s) o h = refl
here (text s) o h = refl
here (bytes b) o h = cc
here (list ts) o h = ap (λ n. Some (list_of n)) (count_plain ts)
here (dict ms) o h = ap (λ ks. Some (dict_with ks)) (keys_plain ms ms (all_got ms o))

inner_at : (s : Step) (q : Path) (d : Tree) (b : Bool) → is_buffer d ≡ b → (is_place d q ≡ false → node (plain d) q ≡ rest_of q (Some d)) → are_bytes (found q (Some d)) ≡ false → found q (kept s d) ≡ rest_of q (Some d)
inner_at s q d false e f h = ap (found q) (kept_plain s d e) ∙ f h
inner_at s [] (bytes b) true e f h = cc
inner_at (Key k) (Key l ∷ q) (bytes b) true e f h = refl
inner_at (Key k) (Index m ∷ q) (bytes b) true e f h = refl
inner_at (Index n) (Key l ∷ q) (bytes b) true e f h = refl
inner_at (Index n) (Index m ∷ q) (bytes b) true e f h = refl
inner_at s q d true e f h = cc

inner : (s : Step) (q : Path) (o : Option Tree) → ((d : Tree) → o ≡ Some d → is_place d q ≡ false → node (plain d) q ≡ rest_of q (Some d)) → are_bytes (found q o) ≡ false
    → found q (option_and_then (kept s) o) ≡ rest_of q o
inner s q None f h = refl
inner s q (Some d) f h = inner_at s q d (is_buffer d) refl (f d refl) h

pub elsewhere : (p : Path) (t : Tree) → is_ordered t ≡ true → is_place t p ≡ false → node (plain t) p ≡ rest_of p (Some t)
elsewhere [] t o h = here t o h
elsewhere (s ∷ q) t o h = ap (found q) (child_plain s t o) ∙ inner s q (child s t) (λ d e g. elsewhere q d (child_ordered s t d o e) g) h

-- ---- where bytes stood

last_at : (s : Step) (o : Option Tree) → are_bytes (found [] o) ≡ true → found [] (option_and_then (kept s) o) ≡ instead_of_bytes s
last_at s None h = cc
last_at (Key k) (Some (bytes b)) h = refl
last_at (Index n) (Some (bytes b)) h = refl
last_at s (Some null) h = cc
last_at s (Some (boolean b)) h = cc
last_at s (Some (whole z)) h = cc
last_at s (Some (decimal n)) h = cc
last_at s (Some (text x)) h = cc
last_at s (Some (list ts)) h = cc
last_at s (Some (dict ms)) h = cc

none_below : (q : Path) (s : Step) (b : List ℕ) → at (q ++ s ∷ []) (bytes b) ≡ None
none_below [] (Key k) b = refl
none_below [] (Index n) b = refl
none_below (Key k ∷ q) s b = refl
none_below (Index n ∷ q) s b = refl

through_at : (x : Step) (q : Path) (s : Step) (d : Tree) (b : Bool) → is_buffer d ≡ b → (is_place d (q ++ s ∷ []) ≡ true → node (plain d) (q ++ s ∷ []) ≡ instead_of_bytes s) → are_bytes (found (q ++ s ∷ []) (Some d)) ≡ true
    → found (q ++ s ∷ []) (kept x d) ≡ instead_of_bytes s
through_at x q s d false e f h = ap (found (q ++ s ∷ [])) (kept_plain x d e) ∙ f h
through_at x q s (bytes b) true e f h = let none : false ≡ true = ap (λ o. are_bytes (option_map shape o)) (sym (none_below q s b)) ∙ h in cc
through_at x q s d true e f h = cc

through : (x : Step) (q : Path) (s : Step) (o : Option Tree) → ((d : Tree) → o ≡ Some d → is_place d (q ++ s ∷ []) ≡ true → node (plain d) (q ++ s ∷ []) ≡ instead_of_bytes s) → are_bytes (found (q ++ s ∷ []) o) ≡ true
    → found (q ++ s ∷ []) (option_and_then (kept x) o) ≡ instead_of_bytes s
through x q s None f h = cc
through x q s (Some d) f h = through_at x q s d (is_buffer d) refl (f d refl) h

pub at_places : (q : Path) (s : Step) (t : Tree) → is_ordered t ≡ true → is_place t (q ++ s ∷ []) ≡ true → node (plain t) (q ++ s ∷ []) ≡ instead_of_bytes s
at_places [] s t o h = ap (found []) (child_plain s t o) ∙ last_at s (child s t) h
at_places (x ∷ q) s t o h = ap (found (q ++ s ∷ [])) (child_plain x t o) ∙ through x q s (child x t) (λ d e g. at_places q s d (child_ordered x t d o e) g) h
