-- Looking into what was read.
use Rattle.std.proofs.Common.{◌≡◌, ℕ, zero, suc, ◌+◌, ◌<◌, ◌≤◌, List, [], ◌∷◌, ◌++◌, length, take, get_or, Option, Some, None, option_map, Bool, true, false, true≢false, cond, Ordering, Less, Equal, Greater, nat_cmp, is_eq, bytes_eq, IsUtf8, Bor, refl, sym, ap, ◌∙◌, arith}
use Rattle.std.specs.Str.{is_utf8}
use Rattle.std.specs.Cmp.Lexicographic.{slice_cmp}
use Rattle.std.specs.Ordering.{match_ordering}
use Rattle.std.proofs.lemmas.Cmp.{nat_list_cmp_total, tied_itself}
use Rattle.std.proofs.lemmas.Map.Text.{is_eq-slice_cmp}
use Rattle.std.proofs.lemmas.Slice.Eq.{bytes_eq-Decides}
use Rattle.std.proofs.lemmas.Str.{IsUtf8-from_is_utf8, is_utf8-from_IsUtf8}
use Rattle.json.specs.Value.{value_view, items_view, members_view}
use Rattle.json.specs.declared.value.Value.{Value}
use Rattle.json.specs.Json.{Json, Members, no_members, member}
use Rattle.json.specs.Find.{get_item}
use Rattle.serde_json.specs.Data as owned
use Rattle.serde_json.specs.declared.value.Value.{Value as Owned}
use Rattle.serde_json.specs.View.{view, items_view as owned_items}
use Rattle.serde_json.specs.Find.{get_member as get_owned}
use Rattle.serde_json.specs.Written.{outline, items_outline, members_outline}
use Rattle.comm_json.specs.Behind.{items_count, put, tidy, tidy_items, tidy_members, get_member, text_value, line_value}
use Rattle.comm_json.proofs.MemberOrder.{Member, put_last}
use Rattle.std.proofs.lemmas.List.{take_more}

same_text : (s : List ℕ) → slice_cmp nat_cmp s s ≡ Equal
same_text s = tied_itself nat_list_cmp_total s

get_member-put_at : (o : Ordering) (k l : List ℕ) (j i : Json) (ms : Members) → slice_cmp nat_cmp k l ≡ o → get_member k (put k j ms) ≡ Some j
    → get_member k (match_ordering o (member k j (member l i ms)) (member l j ms) (member l i (put k j ms))) ≡ Some j
get_member-put_at Less k l j i ms is later = rw same_text refl
get_member-put_at Equal k l j i ms is later = rw is refl
get_member-put_at Greater k l j i ms is later = rw is later

-- what was put at a key is found there
pub get_member-put : (k : List ℕ) (j : Json) (ms : Members) → get_member k (put k j ms) ≡ Some j
get_member-put k j no_members = rw same_text refl
get_member-put k j (member l i ms) = get_member-put_at _ k l j i ms refl (get_member-put k j ms)

either : (o : Ordering) (a b : Option Json) → is_eq o ≡ false → match_ordering o a b a ≡ a
either Less a b e = refl
either Equal a b e = absurd (true≢false e)
either Greater a b e = refl

differ : (xs ys : List ℕ) (b : Bool) → bytes_eq xs ys ≡ b → (xs ≡ ys → ⊥) → b ≡ false
differ xs ys true e other = absurd (other ((bytes_eq-Decides xs ys).0 e))
differ xs ys false e other = refl

skips : (q k : List ℕ) (j : Json) (ms : Members) → (q ≡ k → ⊥) → get_member q (member k j ms) ≡ get_member q ms
skips q k j ms other = either (slice_cmp nat_cmp q k) _ _ (is_eq-slice_cmp q k ∙ differ q k _ refl other)

get_member-put_other_at : (o : Ordering) (q k l : List ℕ) (j i : Json) (ms : Members) → slice_cmp nat_cmp k l ≡ o → (q ≡ k → ⊥) → get_member q (put k j ms) ≡ get_member q ms
    → get_member q (match_ordering o (member k j (member l i ms)) (member l j ms) (member l i (put k j ms))) ≡ get_member q (member l i ms)
get_member-put_other_at Less q k l j i ms is other later = skips q k j (member l i ms) other
get_member-put_other_at Equal q k l j i ms is other later =
    let same : k ≡ l = (bytes_eq-Decides k l).0 (sym (is_eq-slice_cmp k l) ∙ ap is_eq is) in
    let apart = λ (h : q ≡ l). other (h ∙ sym same) in
    skips q l j ms apart ∙ sym (skips q l i ms apart)
get_member-put_other_at Greater q k l j i ms is other later = ap (λ r. match_ordering (slice_cmp nat_cmp q l) r (Some i) r) later

-- the other keys keep their values
pub get_member-put_other : (q k : List ℕ) (j : Json) (ms : Members) → (q ≡ k → ⊥) → get_member q (put k j ms) ≡ get_member q ms
get_member-put_other q k j no_members other = skips q k j no_members other
get_member-put_other q k j (member l i ms) other = get_member-put_other_at _ q k l j i ms refl other (get_member-put_other q k j ms other)

owned_found : (o : Ordering) (d : owned.Data) (rest : Option owned.Data) (more : Option Json) → option_map outline rest ≡ more
    → option_map outline (match_ordering o rest (Some d) rest) ≡ match_ordering o more (Some (outline d)) more
owned_found Less d rest more e = e
owned_found Equal d rest more e = refl
owned_found Greater d rest more e = e

pub get_outline : (k : List ℕ) (ms : owned.Members) → option_map outline (get_owned k ms) ≡ get_member k (members_outline ms)
get_outline k owned.no_members = refl
get_outline k (owned.member l d ms) = owned_found (slice_cmp nat_cmp k l) d (get_owned k ms) _ (get_outline k ms)

pub two_maps : (r : Option (Bor Owned)) → option_map (λ x. outline (view x.now)) r ≡ option_map outline (option_map (λ x. view x.now) r)
two_maps None = refl
two_maps (Some x) = refl

-- of a list's first members the last has the key, or hasn't
pub here : {A : Type 0} → (ms : List (Member A)) (left : ℕ) (m : Member A) (name : List ℕ) → left < length ms → m ≡ get_or ms left m → m.0.now ≡ name
    → get_member name (tidy_members (members_view (take (left + 1) ms)) no_members) ≡ Some (tidy (value_view m.1))
here ms left m name within is same =
    ap (λ l. get_member name (tidy_members (members_view l) no_members)) (take_more ms left m within ∙ ap (λ n. take left ms ++ n ∷ []) (sym is))
    ∙ ap (get_member name) (put_last (take left ms) m no_members) ∙ rw same (get_member-put name (tidy (value_view m.1)) (tidy_members (members_view (take left ms)) no_members))

pub not_here : {A : Type 0} → (ms : List (Member A)) (left : ℕ) (m : Member A) (name : List ℕ) → left < length ms → m ≡ get_or ms left m → (m.0.now ≡ name → ⊥)
    → get_member name (tidy_members (members_view (take (left + 1) ms)) no_members) ≡ get_member name (tidy_members (members_view (take left ms)) no_members)
not_here ms left m name within is other =
    ap (λ l. get_member name (tidy_members (members_view l) no_members)) (take_more ms left m within ∙ ap (λ n. take left ms ++ n ∷ []) (sym is))
    ∙ ap (get_member name) (put_last (take left ms) m no_members)
    ∙ get_member-put_other name m.0.now (tidy (value_view m.1)) (tidy_members (members_view (take left ms)) no_members) (λ same. other (sym same))

pub item_at : {A : Type 0} → (vs : List (Value A)) (i : ℕ) (d : Value A) → i < length vs → Some (tidy (value_view (get_or vs i d))) ≡ get_item i (tidy_items (items_view vs))
item_at [] i d h = absurd (omega arith)
item_at (v ∷ vs) zero d h = refl
item_at (v ∷ vs) (suc i) d h = item_at vs i d (omega arith)

pub count_of : {A : Type 0} → (vs : List (Value A)) → length vs ≡ items_count (tidy_items (items_view vs))
count_of [] = refl
count_of (v ∷ vs) = ap suc (count_of vs)

pub count_of_owned : (vs : List Owned) → length vs ≡ items_count (items_outline (owned_items vs))
count_of_owned [] = refl
count_of_owned (v ∷ vs) = ap suc (count_of_owned vs)

pub item_at_owned : (vs : List Owned) (i : ℕ) (d : Owned) → i < length vs → Some (outline (view (get_or vs i d))) ≡ get_item i (items_outline (owned_items vs))
item_at_owned [] i d h = absurd (omega arith)
item_at_owned (v ∷ vs) zero d h = refl
item_at_owned (v ∷ vs) (suc i) d h = item_at_owned vs i d (omega arith)

pub item_past_owned : (vs : List Owned) (i : ℕ) → length vs ≤ i → None ≡ get_item i (items_outline (owned_items vs))
item_past_owned [] i h = refl
item_past_owned (v ∷ vs) zero h = absurd (omega arith)
item_past_owned (v ∷ vs) (suc i) h = item_past_owned vs i (omega arith)

pub item_past : {A : Type 0} → (vs : List (Value A)) (i : ℕ) → length vs ≤ i → None ≡ get_item i (tidy_items (items_view vs))
item_past [] i h = refl
item_past (v ∷ vs) zero h = absurd (omega arith)
item_past (v ∷ vs) (suc i) h = item_past vs i (omega arith)

pub of_utf8 : (line : List ℕ) → IsUtf8 line → line_value line ≡ text_value line
of_utf8 line utf8 = rw (is_utf8-from_IsUtf8 line utf8) refl

not_utf8_at : (b : Bool) (line : List ℕ) → (b ≡ true → IsUtf8 line) → ¬ (IsUtf8 line) → cond b (text_value line) None ≡ None
not_utf8_at true line is not = absurd (not (is refl))
not_utf8_at false line is not = refl

pub not_utf8 : (line : List ℕ) → ¬ (IsUtf8 line) → line_value line ≡ None
not_utf8 line not = not_utf8_at (is_utf8 line) line (IsUtf8-from_is_utf8 line) not
