-- Where whole numbers alone are taken, no value has a decimal.
use Rattle.std.proofs.Common.{◌≡◌, ℕ, ℤ, List, Option, Some, None, option_map, option_and_then, refl, subst}
use Rattle.json.specs.Json as json
use Rattle.json.specs.Json.{Json}
use Rattle.comm_json.specs.Behind.{whole_of}
use Rattle.comm_value.specs.Tree.{Tree, list, dict, Items, item, Members, member}
use Rattle.comm_value.specs.Decimals.{HasNoDecimal, ItemsHaveNoDecimal, MembersHaveNoDecimal}
use Rattle.comm_value.specs.FromJson.{number_of, tree_of, items_of, members_of}
use Rattle.comm_value.specs.declared.from_json.Numbers.TheVariants.{Whole}

module _ {A : Type 0} (P : A → Type 0) where
  some_so : (x y : A) → P x → Some x ≡ Some y → P y
  some_so x y h e = let same : x ≡ y = cc in subst P same h

  none_so : (y : A) → ◌≡◌ {A = Option A} None (Some y) → P y
  none_so y e = cc

number_so : (s : List ℕ) (o : Option ℤ) (t : Tree) → number_of Whole s o ≡ Some t → HasNoDecimal t
number_so s (Some z) t e = some_so HasNoDecimal _ t tt e
number_so s None t e = none_so HasNoDecimal t e

module _ {A B : Type 0} (P : A → Type 0) (Q : B → Type 0) where
  mapped_so : (f : A → B) (o : Option A) (y : B) → ((x : A) → o ≡ Some x → P x) → ((x : A) → P x → Q (f x)) → option_map f o ≡ Some y → Q y
  mapped_so f None y h g e = none_so Q y e
  mapped_so f (Some x) y h g e = some_so Q (f x) y (g x (h x refl)) e

both_so : {A B C : Type 0} (P : A → Type 0) (Q : B → Type 0) (R : C → Type 0) (f : A → B → C) (a : Option A) (b : Option B) (y : C)
    → ((x : A) → a ≡ Some x → P x) → ((x : B) → b ≡ Some x → Q x) → ((x : A) (z : B) → P x → Q z → R (f x z))
    → option_and_then (λ x. option_map (f x) b) a ≡ Some y → R y
both_so P Q R f None b y h k g e = none_so R y e
both_so P Q R f (Some x) b y h k g e = mapped_so Q R (f x) b y k (λ z s. g x z (h x refl) s) e

mutual
  pub value_so : (j : Json) (t : Tree) → tree_of Whole j ≡ Some t → HasNoDecimal t
  value_so json.null t e = some_so HasNoDecimal _ t tt e
  value_so (json.boolean b) t e = some_so HasNoDecimal _ t tt e
  value_so (json.number s) t e = number_so s (whole_of s) t e
  value_so (json.string s) t e = some_so HasNoDecimal _ t tt e
  value_so (json.array js) t e = mapped_so ItemsHaveNoDecimal HasNoDecimal list (items_of Whole js) t (items_so js) (λ ts h. h) e
  value_so (json.object ms) t e = mapped_so MembersHaveNoDecimal HasNoDecimal dict (members_of Whole ms) t (members_so ms) (λ us h. h) e

  items_so : (js : json.Items) (ts : Items) → items_of Whole js ≡ Some ts → ItemsHaveNoDecimal ts
  items_so json.no_items ts e = some_so ItemsHaveNoDecimal _ ts tt e
  items_so (json.item j js) ts e =
      both_so HasNoDecimal ItemsHaveNoDecimal ItemsHaveNoDecimal item (tree_of Whole j) (items_of Whole js) ts (value_so j) (items_so js) (λ t us h k. (h, k)) e

  pub members_so : (ms : json.Members) (us : Members) → members_of Whole ms ≡ Some us → MembersHaveNoDecimal us
  members_so json.no_members us e = some_so MembersHaveNoDecimal _ us tt e
  members_so (json.member k j ms) us e =
      both_so HasNoDecimal MembersHaveNoDecimal MembersHaveNoDecimal (member k) (tree_of Whole j) (members_of Whole ms) us (value_so j) (members_so ms) (λ t vs h g. (h, g)) e
