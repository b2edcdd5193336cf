-- The paths that a value lists are its places in order, each once, and its buffers stand at them.
use Rattle.std.proofs.Common.{◌≡◌, ℕ, zero, suc, ◌+◌, ◌<◌, List, [], ◌∷◌, ◌++◌, length, get_or, map, Bool, true, false, cond, Equal, refl, sym, ap, ◌∙◌, arith, add-zero}
use Rattle.std.proofs.lemmas.List.{map-append, length-map}
use Rattle.std.proofs.lemmas.List.Elements.{Contains-append_left, Contains-append_right}
use Rattle.std.proofs.lemmas.Map.Text.{is_eq-slice_cmp}
use Rattle.std.proofs.lemmas.Slice.Eq.{bytes_eq-Decides}
use Rattle.std.specs.List.{Contains}
use Rattle.std.specs.Prelude.{Option, Some, None, option_map, option_and_then}
use Rattle.std.specs.Ordering.{is_eq}
use Rattle.comm_value.specs.declared.path.Step.{Step}
use Rattle.comm_value.specs.declared.path.Step.TheVariants.{Key, Index}
use Rattle.comm_value.specs.Tree.{Tree, null, boolean, whole, decimal, text, bytes, list, dict, Items, no_items, item, Members, no_members, member}
use Rattle.comm_value.specs.Node.{Path, Shape, of_bytes, shape, node, at, child, get, get_item}
use Rattle.comm_value.specs.Order.{key_cmp, is_first, is_ordered, items_ordered, members_ordered}
use Rattle.comm_value.specs.Places.{IsPlace, paths, item_paths, member_paths, buffers, item_buffers, member_buffers}
use Rattle.comm_value.proofs.Keys.{parts, both, is_less, flip_less, first_trans}
use Rattle.comm_value.proofs.SameNodes.{past_head}
use Rattle.comm_value.proofs.RoundTrip.{same_key}
use Rattle.comm_value.proofs.PutNodes.{none_some}

-- ---- the nodes at the paths

nodes_below : (s : Step) (t c : Tree) (ps : List Path) → child s t ≡ Some c → map (node t) (map (λ p. s ∷ p) ps) ≡ map (node c) ps
nodes_below s t c [] h = refl
nodes_below s t c (p ∷ ps) h =
    ap (λ o. option_map shape (option_and_then (at p) o) ∷ map (node t) (map (λ q. s ∷ q) ps)) h ∙ ap (λ l. node c p ∷ l) (nodes_below s t c ps h)

abbrev of_buffers : List (List ℕ) → List (Option Shape)
of_buffers bs = map (λ b. Some (of_bytes b)) bs

joined : (t : Tree) (ps qs : List Path) (bs cs : List (List ℕ)) → map (node t) ps ≡ of_buffers bs → map (node t) qs ≡ of_buffers cs → map (node t) (ps ++ qs) ≡ of_buffers (bs ++ cs)
joined t ps qs bs cs h g =
    map-append (node t) ps qs ∙ ap (λ l. l ++ map (node t) qs) h ∙ ap (λ l. of_buffers bs ++ l) g ∙ sym (map-append (λ (b : List ℕ). Some (of_bytes b)) bs cs)

-- each of these members is found by its key
abbrev pub AllGot : Members → Members → Type 0
AllGot all no_members = Unit {0}
AllGot all (member k t ms) = (get k all ≡ Some t) × AllGot all ms

got_past : (l : List ℕ) (u : Tree) (all ms : Members) → is_first l ms ≡ true → members_ordered ms ≡ true → AllGot all ms → AllGot (member l u all) ms
got_past l u all no_members f o g = tt
got_past l u all (member k t ms) f o g =
    let less : key_cmp l k ≡ _ = is_less (key_cmp l k) f in
    let p = parts k t ms o in (past_head k l u all (ap is_eq (flip_less l k less)) ∙ g.0, got_past l u all ms (first_trans l k ms less p.first) p.rest g.1)

pub all_got : (ms : Members) → members_ordered ms ≡ true → AllGot ms ms
all_got no_members o = tt
all_got (member k t ms) o =
    let p = parts k t ms o in
    let same : key_cmp k k ≡ Equal = same_key k in (rw same refl, got_past k t ms ms p.first p.rest (all_got ms p.rest))

-- each of these items is found by its index, from n on
abbrev pub AllAt : Items → ℕ → Items → Type 0
AllAt all n no_items = Unit {0}
AllAt all n (item t ts) = (get_item n all ≡ Some t) × AllAt all (suc n) ts

at_past : (u : Tree) (all : Items) (n : ℕ) (ts : Items) → AllAt all n ts → AllAt (item u all) (suc n) ts
at_past u all n no_items g = tt
at_past u all n (item t ts) g = (g.0, at_past u all (suc n) ts g.1)

pub all_at : (ts : Items) → AllAt ts 0 ts
all_at no_items = tt
all_at (item t ts) = (refl, at_past t ts 0 ts (all_at ts))

mutual
  pub nodes : (t : Tree) → is_ordered t ≡ true → map (node t) (paths t) ≡ of_buffers (buffers t)
  nodes null o = refl
  nodes (boolean b) o = refl
  nodes (whole z) o = refl
  nodes (decimal s) o = refl
  nodes (text s) o = refl
  nodes (bytes b) o = refl
  nodes (list ts) o = nodes_in_list ts 0 ts (all_at ts) o
  nodes (dict ms) o = nodes_in_dict ms ms (all_got ms o) o

  nodes_in_list : (all : Items) (n : ℕ) (ts : Items) → AllAt all n ts → items_ordered ts ≡ true → map (node (list all)) (item_paths n ts) ≡ of_buffers (item_buffers ts)
  nodes_in_list all n no_items g o = refl
  nodes_in_list all n (item t ts) g o =
      let p = both (is_ordered t) (items_ordered ts) o in
      joined (list all) (map (λ q. Index n ∷ q) (paths t)) (item_paths (suc n) ts) (buffers t) (item_buffers ts)
      (nodes_below (Index n) (list all) t (paths t) g.0 ∙ nodes t p.0) (nodes_in_list all (suc n) ts g.1 p.1)

  nodes_in_dict : (all ms : Members) → AllGot all ms → members_ordered ms ≡ true → map (node (dict all)) (member_paths ms) ≡ of_buffers (member_buffers ms)
  nodes_in_dict all no_members g o = refl
  nodes_in_dict all (member k t ms) g o =
      let p = parts k t ms o in
      joined (dict all) (map (λ q. Key k ∷ q) (paths t)) (member_paths ms) (buffers t) (member_buffers ms)
      (nodes_below (Key k) (dict all) t (paths t) g.0 ∙ nodes t p.value) (nodes_in_dict all ms g.1 p.rest)

-- ---- each path is a place

each_place : (t : Tree) (ps : List Path) (bs : List (List ℕ)) (k : ℕ) (p : Path) → map (node t) ps ≡ of_buffers bs → k < length ps → get_or ps k p ≡ p → IsPlace t p
each_place t [] bs k p h below is = absurd (omega arith)
each_place t (q ∷ ps) [] k p h below is = cc
each_place t (q ∷ ps) (b ∷ bs) zero p h below is = let here : node t q ≡ Some (of_bytes b) = cc in (b, ap (node t) (sym is) ∙ here)
each_place t (q ∷ ps) (b ∷ bs) (suc k) p h below is =
    let rest : map (node t) ps ≡ of_buffers bs = cc in each_place t ps bs k p rest (omega arith) is

pub listed_is_place : (t : Tree) (p : Path) → is_ordered t ≡ true → Contains (paths t) p → IsPlace t p
listed_is_place t p o c = each_place t (paths t) (buffers t) c.0 p (nodes t o) c.1 c.2

-- ---- each place is listed

bytes_shape : (o : Option Tree) (b : List ℕ) → option_map shape o ≡ Some (of_bytes b) → o ≡ Some (bytes b)
bytes_shape None b h = cc
bytes_shape (Some null) b h = cc
bytes_shape (Some (boolean c)) b h = cc
bytes_shape (Some (whole z)) b h = cc
bytes_shape (Some (decimal s)) b h = cc
bytes_shape (Some (text s)) b h = cc
bytes_shape (Some (bytes c)) b h = let same : c ≡ b = cc in ap (λ d. Some (bytes d)) same
bytes_shape (Some (list ts)) b h = cc
bytes_shape (Some (dict ms)) b h = cc

below_at : (s : Step) (ps : List Path) (k : ℕ) (p : Path) → k < length ps → get_or ps k p ≡ p → get_or (map (λ q. s ∷ q) ps) k (s ∷ p) ≡ s ∷ p
below_at s [] k p h is = absurd (omega arith)
below_at s (q ∷ ps) zero p h is = ap (λ r. s ∷ r) is
below_at s (q ∷ ps) (suc k) p h is = below_at s ps k p (omega arith) is

contains_below : (s : Step) (ps : List Path) (p : Path) → Contains ps p → Contains (map (λ q. s ∷ q) ps) (s ∷ p)
contains_below s ps p c = (c.0, omega (arith, c.1, length-map ps (λ q. s ∷ q)), below_at s ps c.0 p c.1 c.2)

pub equal_key : (j k : List ℕ) → is_eq (key_cmp j k) ≡ true → j ≡ k
equal_key j k h = (bytes_eq-Decides j k).0 (sym (is_eq-slice_cmp j k) ∙ h)

member_case : (k l : List ℕ) (t : Tree) (ms : Members) (p : Path) (b : List ℕ) (x : Bool) → is_eq (key_cmp k l) ≡ x → (at p t ≡ Some (bytes b) → Contains (paths t) p)
    → (option_and_then (at p) (get k ms) ≡ Some (bytes b) → Contains (member_paths ms) (Key k ∷ p)) → option_and_then (at p) (cond x (Some t) (get k ms)) ≡ Some (bytes b)
    → Contains (member_paths (member l t ms)) (Key k ∷ p)
member_case k l t ms p b true e here later h =
    let same : k ≡ l = equal_key k l e in
    rw same (Contains-append_left (map (λ q. Key l ∷ q) (paths t)) (member_paths ms) (Key l ∷ p) (contains_below (Key l) (paths t) p (here h)))
member_case k l t ms p b false e here later h = Contains-append_right (map (λ q. Key l ∷ q) (paths t)) (member_paths ms) (Key k ∷ p) (later h)

mutual
  listed : (t : Tree) (p : Path) (b : List ℕ) → at p t ≡ Some (bytes b) → Contains (paths t) p
  listed null [] b h = cc
  listed null (Key k ∷ p) b h = absurd (none_some h)
  listed null (Index n ∷ p) b h = absurd (none_some h)
  listed (boolean c) [] b h = cc
  listed (boolean c) (Key k ∷ p) b h = absurd (none_some h)
  listed (boolean c) (Index n ∷ p) b h = absurd (none_some h)
  listed (whole z) [] b h = cc
  listed (decimal s) [] b h = cc
  listed (whole z) (Key k ∷ p) b h = absurd (none_some h)
  listed (decimal s) (Key k ∷ p) b h = absurd (none_some h)
  listed (whole z) (Index n ∷ p) b h = absurd (none_some h)
  listed (decimal s) (Index n ∷ p) b h = absurd (none_some h)
  listed (text s) [] b h = cc
  listed (text s) (Key k ∷ p) b h = absurd (none_some h)
  listed (text s) (Index n ∷ p) b h = absurd (none_some h)
  listed (bytes c) [] b h = (0, omega arith, refl)
  listed (bytes c) (Key k ∷ p) b h = absurd (none_some h)
  listed (bytes c) (Index n ∷ p) b h = absurd (none_some h)
  listed (list ts) [] b h = cc
  listed (list ts) (Key k ∷ p) b h = absurd (none_some h)
  listed (list ts) (Index n ∷ p) b h = listed_item 0 n n ts p b (omega arith) h
  listed (dict ms) [] b h = cc
  listed (dict ms) (Key k ∷ p) b h = listed_member k ms p b h
  listed (dict ms) (Index n ∷ p) b h = absurd (none_some h)

  listed_item : (m n i : ℕ) (ts : Items) (p : Path) (b : List ℕ) → i ≡ m + n → option_and_then (at p) (get_item n ts) ≡ Some (bytes b) → Contains (item_paths m ts) (Index i ∷ p)
  listed_item m n i no_items p b is h = absurd (none_some h)
  listed_item m zero i (item t ts) p b is h =
      let same : i ≡ m = is ∙ add-zero m in
      rw same (Contains-append_left (map (λ q. Index m ∷ q) (paths t)) (item_paths (suc m) ts) (Index m ∷ p) (contains_below (Index m) (paths t) p (listed t p b h)))
  listed_item m (suc n) i (item t ts) p b is h =
      Contains-append_right (map (λ q. Index m ∷ q) (paths t)) (item_paths (suc m) ts) (Index i ∷ p) (listed_item (suc m) n i ts p b (omega (arith, is)) h)

  listed_member : (k : List ℕ) (ms : Members) (p : Path) (b : List ℕ) → option_and_then (at p) (get k ms) ≡ Some (bytes b) → Contains (member_paths ms) (Key k ∷ p)
  listed_member k no_members p b h = absurd (none_some h)
  listed_member k (member l t ms) p b h = member_case k l t ms p b (is_eq (key_cmp k l)) refl (λ x. listed t p b x) (λ x. listed_member k ms p b x) h

pub place_is_listed : (t : Tree) (p : Path) → IsPlace t p → Contains (paths t) p
place_is_listed t p (b, h) = listed t p b (bytes_shape (at p t) b h)
