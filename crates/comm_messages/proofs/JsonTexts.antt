-- The text of a JSON value is read as that value.
use Rattle.std.proofs.Common.{◌≡◌, ℕ, suc, ◌^◌, ◌<◌, ◌≤◌, pos, negsuc, Bool, true, false, cond, List, [], ◌∷◌, ◌++◌, Option, Some, None, option_map, option_and_then, get_or, decimal, IsUtf8, refl, sym, ap, ap₂, ◌∙◌, subst, arith, append-nil, append_assoc, ltb-true}
use Rattle.std.specs.Prelude.{⊤, ◌&&◌, is_some, unwrap_or, ℤ}
use Rattle.std.specs.declared.cmp.Ordering.TheVariants.{Less}
use Rattle.std.proofs.lemmas.Str.{IsUtf8-append, IsUtf8-from_ascii}
use Rattle.std.proofs.lemmas.Fmt.{IsAscii-decimal, first_decimal}
use Rattle.std.proofs.lemmas.Bool.{ne_eqb, and_parts}
use Rattle.json.specs.Token.{Token}
use Rattle.json.specs.Json.{Json, null, boolean, number, string, array, object, Items, no_items, item, Members, no_members, member, value, if_last}
use Rattle.json.specs.Tree.{depth, json_tokens, items_tokens, members_tokens, HasNumbers, ItemsHaveNumbers, MembersHaveNumbers}
use Rattle.json.specs.Lex.{tokens}
use Rattle.json.specs.Print.{print, print_from, quoted, IsNumber}
use Rattle.json.proofs.Printed.Tokens.{tokens-print}
use Rattle.json.proofs.Printed.Trees.{ArePrintable-json_tokens, value-json_tokens}
use Rattle.json.proofs.Printed.Decimals.{IsNumber-decimal}
use Rattle.json.specs.Word.{after_number, after_whole, after_fraction, after_exponent}
use Rattle.json.proofs.Printed.Utf8.{IsUtf8-quoted, IsUtf8-are_ascii, IsUtf8-boolean}
use Rattle.serde_json.specs.Data.{Num}
use Rattle.serde_json.specs.Find.{of_integer, is_float}
use Rattle.serde_json.specs.Read.{number_of, max_depth}
use Rattle.serde_json.specs.Written.{number_text, comma_if}
use Rattle.serde_json.proofs.Numbers.{number_of-decimal, number_of-negative}
use Rattle.comm_json.specs.Behind.{put, tidy, tidy_items, tidy_members, in_range, items_in_range, members_in_range, if_in_range, ends, is_decimal, text_value}
use Rattle.comm_json.specs.Text.{compact_text, items_text, members_text}
use Rattle.comm_value.specs.Order.{key_cmp}
use Rattle.comm_value.specs.Range.{in_range as is_within}
use Rattle.comm_value.proofs.Keys.{key_trans, flip_less}

-- ---- what is asked of the value: numbers that are read, texts in UTF-8, keys in order

abbrev pub NumberClean : List ℕ → Type 0
NumberClean s = IsNumber s × (is_some (number_of s) ≡ true) × IsUtf8 s

abbrev pub IsFirst : List ℕ → Members → Type 0
IsFirst k no_members = ⊤
IsFirst k (member l d ms) = key_cmp k l ≡ Less

abbrev mutual
  pub IsClean : Json → Type 0
  IsClean null = ⊤
  IsClean (boolean b) = ⊤
  IsClean (number s) = NumberClean s
  IsClean (string s) = IsUtf8 s
  IsClean (array ds) = AreClean ds
  IsClean (object ms) = MembersClean ms

  pub AreClean : Items → Type 0
  AreClean no_items = ⊤
  AreClean (item d ds) = IsClean d × AreClean ds

  pub MembersClean : Members → Type 0
  MembersClean no_members = ⊤
  MembersClean (member k d ms) = IsUtf8 k × IsFirst k ms × IsClean d × MembersClean ms

-- ---- numbers

minus_number : (ds : List ℕ) → 48 < get_or ds 0 0 → IsNumber ds → IsNumber (45 ∷ ds)
unfolding after_number
minus_number [] first h = absurd (omega arith)
minus_number (d ∷ ds) first h =
    ap (λ b. option_and_then after_exponent (option_and_then after_fraction (after_whole (cond b ds (d ∷ ds))))) (sym (ne_eqb d 45 (λ e. omega arith))) ∙ h

then : (x : ℕ) (s : List ℕ) → IsUtf8 (x ∷ []) → IsUtf8 s → IsUtf8 (x ∷ s)
then x s h k = IsUtf8-append (x ∷ []) s h k

pub decimal_clean : (n : ℕ) → n < 2 ^ 64 → NumberClean (decimal n)
decimal_clean n h = (IsNumber-decimal n h, ap is_some (number_of-decimal n h), IsUtf8-from_ascii (decimal n) (IsAscii-decimal n h))

negative_clean : (n : ℕ) → n < 2 ^ 63 → NumberClean (45 ∷ decimal (suc n))
negative_clean n h = (
  minus_number (decimal (suc n)) (first_decimal (suc n) (omega arith) (omega arith)) (IsNumber-decimal (suc n) (omega arith)),
  ap is_some (number_of-negative n h),
  then 45 (decimal (suc n)) (IsUtf8-are_ascii _ refl) (IsUtf8-from_ascii (decimal (suc n)) (IsAscii-decimal (suc n) (omega arith))),
)

pub whole_clean : (z : ℤ) → is_within z ≡ true → NumberClean (number_text (of_integer z))
whole_clean (pos n) h = decimal_clean n (ltb-true _ _ h)
whole_clean (negsuc n) h = negative_clean n (ltb-true _ _ h)

number_ends : (o : Option (List ℕ)) → ends o ≡ true → o ≡ Some []
number_ends None h = cc
number_ends (Some []) h = refl
number_ends (Some (x ∷ xs)) h = cc

float_is_some : (s : List ℕ) (o : Option Num) → unwrap_or (option_map is_float o) false ≡ true → is_some o ≡ true
float_is_some s None h = cc
float_is_some s (Some n) h = refl

pub other_clean : (s : List ℕ) → is_decimal s ≡ true → IsUtf8 s → NumberClean s
other_clean s h utf8 = let p = and_parts _ _ h in (number_ends (after_number s) p.0, float_is_some s (number_of s) p.1, utf8)

-- ---- members that are put in one after another, each behind those before

abbrev joined : Members → Members → Members
joined no_members ms = ms
joined (member k d before) ms = member k d (joined before ms)

abbrev AllBelow : Members → List ℕ → Type 0
AllBelow no_members k = ⊤
AllBelow (member l d ms) k = (key_cmp l k ≡ Less) × AllBelow ms k

abbrev AreBefore : Members → Members → Type 0
AreBefore before no_members = ⊤
AreBefore before (member k d ms) = AllBelow before k

joined_none : (before : Members) → joined before no_members ≡ before
joined_none no_members = refl
joined_none (member k d before) = ap (member k d) (joined_none before)

joined_more : (before : Members) (k : List ℕ) (d : Json) (ms : Members) → joined (joined before (member k d no_members)) ms ≡ joined before (member k d ms)
joined_more no_members k d ms = refl
joined_more (member l e before) k d ms = ap (member l e) (joined_more before k d ms)

put_behind : (before : Members) (k : List ℕ) (d : Json) → AllBelow before k → put k d before ≡ joined before (member k d no_members)
put_behind no_members k d h = refl
put_behind (member l e before) k d h = rw (flip_less l k h.0) (ap (member l e) (put_behind before k d h.1))

still_below : (before : Members) (k l : List ℕ) (d : Json) → AllBelow before k → key_cmp k l ≡ Less → AllBelow (joined before (member k d no_members)) l
still_below no_members k l d h less = (less, tt)
still_below (member z e before) k l d h less = (key_trans z k l h.0 less, still_below before k l d h.1 less)

still_before : (before : Members) (k : List ℕ) (d : Json) (ms : Members) → AllBelow before k → IsFirst k ms → AreBefore (joined before (member k d no_members)) ms
still_before before k d no_members h first = tt
still_before before k d (member l e ms) h first = still_below before k l d h first

-- ---- the value is tidy, in range, and has numbers

mutual
  back : (d : Json) → IsClean d → tidy d ≡ d
  back null h = refl
  back (boolean b) h = refl
  back (number s) h = refl
  back (string s) h = refl
  back (array ds) h = ap array (items_back ds h)
  back (object ms) h = ap object (members_back ms no_members h (none_before ms))

  items_back : (ds : Items) → AreClean ds → tidy_items ds ≡ ds
  items_back no_items h = refl
  items_back (item d ds) h = ap₂ item (back d h.0) (items_back ds h.1)

  members_back : (ms before : Members) → MembersClean ms → AreBefore before ms → tidy_members ms before ≡ joined before ms
  members_back no_members before h below = sym (joined_none before)
  members_back (member k d ms) before h below =
      let after = joined before (member k d no_members) in
      ap (λ e. tidy_members ms (put k e before)) (back d h.2) ∙ ap (tidy_members ms) (put_behind before k d below)
      ∙ members_back ms after h.3 (still_before before k d ms below h.1) ∙ joined_more before k d ms

  none_before : (ms : Members) → AreBefore no_members ms
  none_before no_members = tt
  none_before (member k d ms) = tt

both_true : (a b : Bool) → a ≡ true → b ≡ true → (a && b) ≡ true
both_true a b p q = ap (λ c. c && b) p ∙ q

mutual
  within : (d : Json) → IsClean d → in_range d ≡ true
  within null h = refl
  within (boolean b) h = refl
  within (number s) h = h.1
  within (string s) h = refl
  within (array ds) h = items_within ds h
  within (object ms) h = members_within ms h

  items_within : (ds : Items) → AreClean ds → items_in_range ds ≡ true
  items_within no_items h = refl
  items_within (item d ds) h = both_true (in_range d) _ (within d h.0) (items_within ds h.1)

  members_within : (ms : Members) → MembersClean ms → members_in_range ms ≡ true
  members_within no_members h = refl
  members_within (member k d ms) h = both_true (in_range d) _ (within d h.2) (members_within ms h.3)

mutual
  has_numbers : (d : Json) → IsClean d → HasNumbers d
  has_numbers null h = tt
  has_numbers (boolean b) h = tt
  has_numbers (number s) h = h.0
  has_numbers (string s) h = tt
  has_numbers (array ds) h = items_have_numbers ds h
  has_numbers (object ms) h = members_have_numbers ms h

  items_have_numbers : (ds : Items) → AreClean ds → ItemsHaveNumbers ds
  items_have_numbers no_items h = tt
  items_have_numbers (item d ds) h = (has_numbers d h.0, items_have_numbers ds h.1)

  members_have_numbers : (ms : Members) → MembersClean ms → MembersHaveNumbers ms
  members_have_numbers no_members h = tt
  members_have_numbers (member k d ms) h = (has_numbers d h.2, members_have_numbers ms h.3)

-- ---- what the kit's json prints for its tokens is the text

regroup : (q a b c : List ℕ) → (q ++ 58 ∷ []) ++ (a ++ (b ++ c)) ≡ (q ++ 58 ∷ (a ++ b)) ++ c
regroup q a b c = append_assoc q _ _ ∙ sym (append_assoc q _ c ∙ ap (λ s. q ++ 58 ∷ s) (append_assoc a b c))

regroup_item : (q a b c : List ℕ) → q ++ (a ++ (b ++ c)) ≡ (q ++ (a ++ b)) ++ c
regroup_item q a b c = simp append_assoc

print_member : (k : List ℕ) (d : Json) (ms : Members) (ts : List Token)
    → print_from false (json_tokens d ++ (members_tokens ms ++ ts)) ≡ compact_text d ++ print_from true (members_tokens ms ++ ts)
    → print_from true (members_tokens ms ++ ts) ≡ members_text true ms ++ print_from true ts
    → (quoted k ++ 58 ∷ []) ++ print_from false ((json_tokens d ++ members_tokens ms) ++ ts) ≡ (quoted k ++ 58 ∷ (compact_text d ++ members_text true ms)) ++ print_from true ts
print_member k d ms ts value rest =
    let whole = ap (print_from false) (append_assoc (json_tokens d) (members_tokens ms) ts) ∙ value in
    ap (λ s. (quoted k ++ 58 ∷ []) ++ s) (whole ∙ ap (λ s. compact_text d ++ s) rest) ∙ regroup (quoted k) (compact_text d) (members_text true ms) (print_from true ts)

mutual
  unfolding print_from

  print_value : (later : Bool) (d : Json) (ts : List Token) → print_from later (json_tokens d ++ ts) ≡ comma_if later ++ (compact_text d ++ print_from true ts)
  print_value true null ts = refl
  print_value false null ts = refl
  print_value true (boolean b) ts = refl
  print_value false (boolean b) ts = refl
  print_value true (number s) ts = refl
  print_value false (number s) ts = refl
  print_value true (string s) ts = refl
  print_value false (string s) ts = refl
  print_value true (array ds) ts = ap (λ s. 44 ∷ 91 ∷ s) (print_items false ds ts)
  print_value false (array ds) ts = ap (λ s. 91 ∷ s) (print_items false ds ts)
  print_value true (object ms) ts = ap (λ s. 44 ∷ 123 ∷ s) (print_members false ms ts)
  print_value false (object ms) ts = ap (λ s. 123 ∷ s) (print_members false ms ts)

  print_items : (later : Bool) (ds : Items) (ts : List Token) → print_from later (items_tokens ds ++ ts) ≡ items_text later ds ++ print_from true ts
  print_items true no_items ts = refl
  print_items false no_items ts = refl
  print_items later (item d ds) ts =
      let rest = items_tokens ds in
      ap (print_from later) (append_assoc (json_tokens d) rest ts) ∙ print_value later d (rest ++ ts) ∙ ap (λ s. comma_if later ++ (compact_text d ++ s)) (print_items true ds ts)
      ∙ regroup_item (comma_if later) (compact_text d) (items_text true ds) (print_from true ts)

  print_members : (later : Bool) (ms : Members) (ts : List Token) → print_from later (members_tokens ms ++ ts) ≡ members_text later ms ++ print_from true ts
  print_members true no_members ts = refl
  print_members false no_members ts = refl
  print_members true (member k d ms) ts = ap (λ s. 44 ∷ s) (print_member k d ms ts (print_value false d (members_tokens ms ++ ts)) (print_members true ms ts))
  print_members false (member k d ms) ts = print_member k d ms ts (print_value false d (members_tokens ms ++ ts)) (print_members true ms ts)

print-text : (d : Json) → print (json_tokens d) ≡ compact_text d
unfolding print_from
print-text d = ap print (sym (append-nil (json_tokens d))) ∙ print_value false d [] ∙ append-nil (compact_text d)

-- ---- the text

tokens_of : (d : Json) → IsClean d → tokens (compact_text d) ≡ json_tokens d
tokens_of d h = ap tokens (sym (print-text d)) ∙ tokens-print (json_tokens d) (ArePrintable-json_tokens d (has_numbers d h))

abbrev whole : Option (Json × List Token) → Option Json
whole o = option_and_then if_in_range (option_and_then (λ p. if_last p.0 p.1) o)

pub read_again : (d : Json) → IsClean d → depth d ≤ max_depth → text_value (compact_text d) ≡ Some d
read_again d h shallow =
    ap whole (ap (value max_depth) (tokens_of d h ∙ sym (append-nil _)) ∙ value-json_tokens d max_depth [] shallow)
    ∙ rw (within d h, back d h) refl

comma_utf8 : (later : Bool) → IsUtf8 (comma_if later)
comma_utf8 true = IsUtf8-are_ascii (44 ∷ []) refl
comma_utf8 false = IsUtf8-are_ascii [] refl

mutual
  pub utf8 : (d : Json) → IsClean d → IsUtf8 (compact_text d)
  utf8 null h = IsUtf8-are_ascii _ refl
  utf8 (boolean b) h = IsUtf8-boolean b
  utf8 (number s) h = h.2
  utf8 (string s) h = IsUtf8-quoted s h
  utf8 (array ds) h = then 91 (items_text false ds) (IsUtf8-are_ascii _ refl) (items_utf8 false ds h)
  utf8 (object ms) h = then 123 (members_text false ms) (IsUtf8-are_ascii _ refl) (members_utf8 false ms h)

  items_utf8 : (later : Bool) (ds : Items) → AreClean ds → IsUtf8 (items_text later ds)
  items_utf8 later no_items h = IsUtf8-are_ascii _ refl
  items_utf8 later (item d ds) h =
      IsUtf8-append (comma_if later) _ (comma_utf8 later) (IsUtf8-append (compact_text d) (items_text true ds) (utf8 d h.0) (items_utf8 true ds h.1))

  members_utf8 : (later : Bool) (ms : Members) → MembersClean ms → IsUtf8 (members_text later ms)
  members_utf8 later no_members h = IsUtf8-are_ascii _ refl
  members_utf8 later (member k d ms) h =
      let value = IsUtf8-append (compact_text d) (members_text true ms) (utf8 d h.2) (members_utf8 true ms h.3) in
      IsUtf8-append (comma_if later) _ (comma_utf8 later)
      (IsUtf8-append (quoted k) (58 ∷ (compact_text d ++ members_text true ms)) (IsUtf8-quoted k h.0) (then 58 _ (IsUtf8-are_ascii _ refl) value))
