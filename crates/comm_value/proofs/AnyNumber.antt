-- Each value of a line is taken, where any number is.
use Rattle.std.proofs.Common.{◌≡◌, ℕ, List, true, false, cond, Option, Some, None, option_map, option_and_then, refl, ap, ◌∙◌}
use Rattle.std.specs.Prelude.{is_some, unwrap_or, ◌&&◌}
use Rattle.json.specs.Json as json
use Rattle.json.specs.Json.{Json}
use Rattle.json.specs.Print.{IsNumber}
use Rattle.serde_json.specs.Data.{Num, unsigned, negative, float}
use Rattle.serde_json.specs.Find.{as_integer, is_float}
use Rattle.serde_json.specs.Read.{number_of as number_read}
use Rattle.comm_json.specs.Behind.{whole_of, ends, is_decimal}
use Rattle.comm_json.specs.Numbers.{IsInRange, NumbersInRange, ItemsInRange, MembersInRange}
use Rattle.comm_value.specs.Tree.{decimal, list, dict, item, member}
use Rattle.comm_value.specs.FromJson.{number_of, tree_of, items_of, members_of}
use Rattle.comm_value.specs.declared.from_json.Numbers.TheVariants.{Any}

decimal_is : (s : List ℕ) (x : Num) → IsNumber s → number_read s ≡ Some x → is_decimal s ≡ is_float x
decimal_is s x h is =
    ap (λ a. ends a && unwrap_or (option_map is_float (number_read s)) false) h
    ∙ ap (λ o. unwrap_or (option_map is_float o) false) is

taken_at : (s : List ℕ) (o : Option Num) → number_read s ≡ o → IsNumber s → is_some o ≡ true
    → is_some (number_of Any s (option_and_then as_integer o)) ≡ true
taken_at s None is h some = cc
taken_at s (Some (unsigned n)) is h some = refl
taken_at s (Some (negative z)) is h some = refl
taken_at s (Some (float x)) is h some = ap (λ b. is_some (cond b (Some (decimal s)) None)) (decimal_is s (float x) h is)

number_taken : (s : List ℕ) → IsInRange s → is_some (number_of Any s (whole_of s)) ≡ true
number_taken s h = taken_at s (number_read s) refl h.0 h.1

mapped : {A B : Type 0} (f : A → B) (o : Option A) → is_some o ≡ true → is_some (option_map f o) ≡ true
mapped f None h = h
mapped f (Some x) h = refl

both : {A B C : Type 0} (f : A → B → C) (a : Option A) (b : Option B) → is_some a ≡ true → is_some b ≡ true
    → is_some (option_and_then (λ x. option_map (f x) b) a) ≡ true
both f None b h k = h
both f (Some x) b h k = mapped (f x) b k

mutual
  pub value_taken : (j : Json) → NumbersInRange j → is_some (tree_of Any j) ≡ true
  value_taken json.null h = refl
  value_taken (json.boolean b) h = refl
  value_taken (json.number s) h = number_taken s h
  value_taken (json.string s) h = refl
  value_taken (json.array js) h = mapped list (items_of Any js) (items_taken js h)
  value_taken (json.object ms) h = mapped dict (members_of Any ms) (members_taken ms h)

  items_taken : (js : json.Items) → ItemsInRange js → is_some (items_of Any js) ≡ true
  items_taken json.no_items h = refl
  items_taken (json.item j js) h = both item (tree_of Any j) (items_of Any js) (value_taken j h.0) (items_taken js h.1)

  pub members_taken : (ms : json.Members) → MembersInRange ms → is_some (members_of Any ms) ≡ true
  members_taken json.no_members h = refl
  members_taken (json.member k j ms) h =
      both (member k) (tree_of Any j) (members_of Any ms) (value_taken j h.0) (members_taken ms h.1)
