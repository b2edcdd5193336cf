-- Values in which no bytes stand.
use Rattle.std.proofs.Common.{◌≡◌, ℕ, suc, ℤ, List, [], ◌∷◌, ◌++◌, map, Bool, true, false, cond, Ordering, Less, Equal, Greater, refl, sym, ap, ◌∙◌}
use Rattle.std.specs.Prelude.{◌||◌, Option, Some, None, option_map, option_and_then}
use Rattle.std.specs.Ordering.{is_eq, match_ordering}
use Rattle.json.specs.Json as json
use Rattle.comm_json.specs.Behind.{whole_of, is_decimal}
use Rattle.comm_value.specs.declared.from_json.Numbers.{Numbers}
use Rattle.comm_value.specs.declared.from_json.Numbers.TheVariants.{Whole, Any}
use Rattle.comm_value.specs.declared.path.Step.TheVariants.{Key, Index}
use Rattle.comm_value.specs.Tree.{Tree, null, boolean, whole, decimal, text, bytes, list, dict, Items, no_items, item, Members, no_members, member}
use Rattle.comm_value.specs.Node.{Path, get}
use Rattle.comm_value.specs.Order.{key_cmp}
use Rattle.comm_value.specs.Put.{insert}
use Rattle.comm_value.specs.FromJson.{tree_of, items_of, members_of, number_of, other_number}
use Rattle.comm_value.specs.Paths.{items_from, step_tree, path_tree, paths_tree}
use Rattle.comm_value.specs.Places.{has_bytes, items_have_bytes, members_have_bytes, plain, plain_item, plain_items, plain_members, is_buffer, paths, item_paths, member_paths, buffers, item_buffers, member_buffers}
use Rattle.comm_value.proofs.BytesLemmas.{neither}
use Rattle.comm_value.proofs.PlainLemmas.{item_plain, member_kept, member_gone}

pub both_none : (a b : Bool) → a ≡ false → b ≡ false → (a || b) ≡ false
both_none a b p q = ap (λ c. c || b) p ∙ q

-- a fact on what there may be
abbrev Free : {A : Type 0} → (A → Bool) → Option A → Type 0
Free test None = Unit {0}
Free test (Some x) = test x ≡ false

free_some : {A : Type 0} (test : A → Bool) (o : Option A) (x : A) → o ≡ Some x → Free test o → test x ≡ false
free_some test None x h f = cc
free_some test (Some y) x h f = let same : y ≡ x = cc in ap test (sym same) ∙ f

free_map : {A B : Type 0} (test : B → Bool) (of : A → Bool) (f : A → B) (o : Option A) → ((x : A) → of x ≡ false → test (f x) ≡ false) → Free of o → Free test (option_map f o)
free_map test of f None h g = tt
free_map test of f (Some x) h g = h x g

-- ---- what was read as JSON

if_free : (b : Bool) (s : List ℕ) → Free has_bytes (cond b (Some (decimal s)) None)
if_free true s = refl
if_free false s = tt

other_free : (numbers : Numbers) (s : List ℕ) → Free has_bytes (other_number numbers s)
other_free Whole s = tt
other_free Any s = if_free (is_decimal s) s

number_free : (numbers : Numbers) (s : List ℕ) (o : Option ℤ) → Free has_bytes (number_of numbers s o)
number_free numbers s (Some z) = refl
number_free numbers s None = other_free numbers s

item_free : (o : Option Tree) (rest : Option Items) → Free has_bytes o → Free items_have_bytes rest → Free items_have_bytes (option_and_then (λ t. option_map (item t) rest) o)
item_free None rest f g = tt
item_free (Some t) None f g = tt
item_free (Some t) (Some ts) f g = both_none (has_bytes t) (items_have_bytes ts) f g

member_free : (k : List ℕ) (o : Option Tree) (rest : Option Members) → Free has_bytes o → Free members_have_bytes rest → Free members_have_bytes (option_and_then (λ t. option_map (member k t) rest) o)
member_free k None rest f g = tt
member_free k (Some t) None f g = tt
member_free k (Some t) (Some ms) f g = both_none (has_bytes t) (members_have_bytes ms) f g

mutual
  tree_free : (numbers : Numbers) (d : json.Json) → Free has_bytes (tree_of numbers d)
  tree_free numbers json.null = refl
  tree_free numbers (json.boolean b) = refl
  tree_free numbers (json.number n) = number_free numbers n (whole_of n)
  tree_free numbers (json.string s) = refl
  tree_free numbers (json.array ds) = free_map has_bytes items_have_bytes list (items_of numbers ds) (λ x h. h) (items_free numbers ds)
  tree_free numbers (json.object ms) = free_map has_bytes members_have_bytes dict (members_of numbers ms) (λ x h. h) (members_free numbers ms)

  items_free : (numbers : Numbers) (ds : json.Items) → Free items_have_bytes (items_of numbers ds)
  items_free numbers json.no_items = refl
  items_free numbers (json.item d ds) = item_free (tree_of numbers d) (items_of numbers ds) (tree_free numbers d) (items_free numbers ds)

  members_free : (numbers : Numbers) (ms : json.Members) → Free members_have_bytes (members_of numbers ms)
  members_free numbers json.no_members = refl
  members_free numbers (json.member k d ms) = member_free k (tree_of numbers d) (members_of numbers ms) (tree_free numbers d) (members_free numbers ms)

pub read_value : (numbers : Numbers) (d : json.Json) (t : Tree) → tree_of numbers d ≡ Some t → has_bytes t ≡ false
read_value numbers d t h = free_some has_bytes (tree_of numbers d) t h (tree_free numbers d)

pub read_members : (numbers : Numbers) (ds : json.Members) (ms : Members) → members_of numbers ds ≡ Some ms → members_have_bytes ms ≡ false
read_members numbers ds ms h = free_some members_have_bytes (members_of numbers ds) ms h (members_free numbers ds)

-- ---- without its bytes

member_case : (k : List ℕ) (t : Tree) (ms : Members) (b : Bool) → is_buffer t ≡ b → (is_buffer t ≡ false → has_bytes (plain t) ≡ false) → members_have_bytes (plain_members ms) ≡ false
    → members_have_bytes (plain_members (member k t ms)) ≡ false
member_case k t ms true e f h = ap members_have_bytes (member_gone k t ms e) ∙ h
member_case k t ms false e f h = ap members_have_bytes (member_kept k t ms e) ∙ both_none (has_bytes (plain t)) _ (f e) h

item_case : (t : Tree) → (is_buffer t ≡ false → has_bytes (plain t) ≡ false) → has_bytes (plain_item t) ≡ false
item_case null f = refl
item_case (boolean b) f = refl
item_case (whole z) f = refl
item_case (decimal s) f = refl
item_case (text s) f = refl
item_case (bytes b) f = refl
item_case (list ts) f = f refl
item_case (dict ms) f = f refl

mutual
  plain_free : (t : Tree) → is_buffer t ≡ false → has_bytes (plain t) ≡ false
  plain_free null h = refl
  plain_free (boolean b) h = refl
  plain_free (whole z) h = refl
  plain_free (decimal s) h = refl
  plain_free (text s) h = refl
  plain_free (bytes b) h = cc
  plain_free (list ts) h = plain_items_free ts
  plain_free (dict ms) h = plain_members_free ms

  plain_items_free : (ts : Items) → items_have_bytes (plain_items ts) ≡ false
  plain_items_free no_items = refl
  plain_items_free (item t ts) =
      ap items_have_bytes (item_plain t ts) ∙ both_none (has_bytes (plain_item t)) _ (item_case t (λ h. plain_free t h)) (plain_items_free ts)

  pub plain_members_free : (ms : Members) → members_have_bytes (plain_members ms) ≡ false
  plain_members_free no_members = refl
  plain_members_free (member k t ms) = member_case k t ms (is_buffer t) refl (λ h. plain_free t h) (plain_members_free ms)

-- ---- without places

mutual
  free_paths : (t : Tree) → has_bytes t ≡ false → paths t ≡ []
  free_paths null h = refl
  free_paths (boolean b) h = refl
  free_paths (whole z) h = refl
  free_paths (decimal s) h = refl
  free_paths (text s) h = refl
  free_paths (bytes b) h = cc
  free_paths (list ts) h = free_item_paths 0 ts h
  free_paths (dict ms) h = no_paths ms h

  free_item_paths : (n : ℕ) (ts : Items) → items_have_bytes ts ≡ false → item_paths n ts ≡ []
  free_item_paths n no_items h = refl
  free_item_paths n (item t ts) h =
      let p = neither (has_bytes t) (items_have_bytes ts) h in
      ap (λ l. map (λ q. Index n ∷ q) l ++ item_paths (suc n) ts) (free_paths t p.0) ∙ free_item_paths (suc n) ts p.1

  pub no_paths : (ms : Members) → members_have_bytes ms ≡ false → member_paths ms ≡ []
  no_paths no_members h = refl
  no_paths (member k t ms) h =
      let p = neither (has_bytes t) (members_have_bytes ms) h in
      ap (λ l. map (λ q. Key k ∷ q) l ++ member_paths ms) (free_paths t p.0) ∙ no_paths ms p.1

mutual
  free_buffers : (t : Tree) → has_bytes t ≡ false → buffers t ≡ []
  free_buffers null h = refl
  free_buffers (boolean b) h = refl
  free_buffers (whole z) h = refl
  free_buffers (decimal s) h = refl
  free_buffers (text s) h = refl
  free_buffers (bytes b) h = cc
  free_buffers (list ts) h = free_item_buffers ts h
  free_buffers (dict ms) h = no_buffers ms h

  free_item_buffers : (ts : Items) → items_have_bytes ts ≡ false → item_buffers ts ≡ []
  free_item_buffers no_items h = refl
  free_item_buffers (item t ts) h =
      let p = neither (has_bytes t) (items_have_bytes ts) h in
      ap (λ l. l ++ item_buffers ts) (free_buffers t p.0) ∙ free_item_buffers ts p.1

  pub no_buffers : (ms : Members) → members_have_bytes ms ≡ false → member_buffers ms ≡ []
  no_buffers no_members h = refl
  no_buffers (member k t ms) h =
      let p = neither (has_bytes t) (members_have_bytes ms) h in
      ap (λ l. l ++ member_buffers ms) (free_buffers t p.0) ∙ no_buffers ms p.1

-- ---- lists of paths

steps_free : (p : Path) → items_have_bytes (items_from (map step_tree p)) ≡ false
steps_free [] = refl
steps_free (Key k ∷ p) = steps_free p
steps_free (Index n ∷ p) = steps_free p

pub paths_free : (ps : List Path) → has_bytes (paths_tree ps) ≡ false
paths_free [] = refl
paths_free (p ∷ ps) = both_none (has_bytes (path_tree p)) _ (steps_free p) (paths_free ps)

-- ---- at a key

insert_case : (k : List ℕ) (t : Tree) (l : List ℕ) (u : Tree) (ms : Members) (o : Ordering) → has_bytes t ≡ false → members_have_bytes (member l u ms) ≡ false → members_have_bytes (insert k t ms) ≡ false
    → members_have_bytes (match_ordering o (member k t (member l u ms)) (member k t ms) (member l u (insert k t ms))) ≡ false
insert_case k t l u ms Less f h r = both_none (has_bytes t) _ f h
insert_case k t l u ms Equal f h r = both_none (has_bytes t) _ f (neither (has_bytes u) _ h).1
insert_case k t l u ms Greater f h r = both_none (has_bytes u) _ (neither (has_bytes u) (members_have_bytes ms) h).0 r

pub insert_free : (k : List ℕ) (t : Tree) (ms : Members) → has_bytes t ≡ false → members_have_bytes ms ≡ false → members_have_bytes (insert k t ms) ≡ false
insert_free k t no_members f h = both_none (has_bytes t) false f refl
insert_free k t (member l u ms) f h = insert_case k t l u ms (key_cmp k l) f h (insert_free k t ms f (neither (has_bytes u) (members_have_bytes ms) h).1)

got_case : (x : Bool) (t c : Tree) (rest : Option Tree) → has_bytes t ≡ false → (rest ≡ Some c → has_bytes c ≡ false) → cond x (Some t) rest ≡ Some c → has_bytes c ≡ false
got_case true t c rest f r h = let same : t ≡ c = cc in ap has_bytes (sym same) ∙ f
got_case false t c rest f r h = r h

pub get_free : (k : List ℕ) (ms : Members) (c : Tree) → members_have_bytes ms ≡ false → get k ms ≡ Some c → has_bytes c ≡ false
get_free k no_members c f h = cc
get_free k (member l t ms) c f h =
    let p = neither (has_bytes t) (members_have_bytes ms) f in got_case (is_eq (key_cmp k l)) t c (get k ms) p.0 (λ e. get_free k ms c p.1 e) h
