-- Values that are read one after the other from the tokens of a text.
use Rattle.std.proofs.Common.{ℕ, ◌-◌, ◌<◌, ◌≤◌, List, [], ◌∷◌, ◌++◌, length, Option, Some, None, Result, Ok, Err, ◌≡◌, true, refl, sym, ap, subst, ◌∙◌, arith, is_some}
use Rattle.std.specs.Prelude.{IfOk, IfSome, OnSome, option_map}
use Rattle.serde_json.specs.Read.{number_of}
use Rattle.std.specs.Result.{result_ok}
use Rattle.json.specs.Token.{Token}
use Rattle.json.specs.Json as json
use Rattle.json.specs.Json.{Json, value, items, members, item, no_items, member, no_members, parse_map, read_key, after_end_array}
use Rattle.json.proofs.Grammar.{items_end, items_more, members_end, members_more}
use Rattle.comm_json.specs.Behind.{in_range, items_in_range, members_in_range, tidy, tidy_items, tidy_members, put}
use Rattle.comm_value.specs.Tree.{Tree, Members}
use Rattle.comm_value.specs.Tree as values
use Rattle.comm_value.specs.Order.{is_ordered}
use Rattle.comm_value.specs.Put.{insert}
use Rattle.comm_value.specs.FromJson.{tree_of, taken_as, items_of, members_of}
use Rattle.comm_value.specs.Reading.{Reads, ReadsItems, ReadsMember, ReadsMembers, ReadsMore}
use Rattle.comm_value.specs.View.{tree, items_of as items_view}
use Rattle.comm_value.specs.declared.from_json.Numbers.{Numbers}
use Rattle.comm_value.specs.declared.val.Val.{Val}
use Rattle.comm_value.specs.declared.val.Member.{Member}
use Rattle.comm_value.proofs.FromJsonLemmas.{put_read}
use Rattle.comm_value.proofs.Keys.{both, both_true}

pub none_before : {A : Type 0} (r : Option (A × List Token)) → r ≡ parse_map (λ a. a) r
none_before None = refl
none_before (Some p) = refl

-- ---- items

abbrev items_before : List Json → json.Items → json.Items
items_before [] rest = rest
items_before (j ∷ js) rest = item j (items_before js rest)

items_push : (js : List Json) (j : Json) (rest : json.Items) → items_before js (item j rest) ≡ items_before (js ++ j ∷ []) rest
items_push [] j rest = refl
items_push (i ∷ js) j rest = ap (item i) (items_push js j rest)

one_more_item : (js : List Json) (j : Json) (r : Option (json.Items × List Token)) → parse_map (items_before js) (parse_map (item j) r) ≡ parse_map (items_before (js ++ j ∷ [])) r
one_more_item js j None = refl
one_more_item js j (Some p) = ap (λ is. Some (is, p.1)) (items_push js j p.0)

-- these values are those of the JSON values
abbrev AreTaken : Numbers → List Json → List Val → Type 0
AreTaken numbers [] [] = Unit {0}
AreTaken numbers [] (v ∷ vs) = ⊥
AreTaken numbers (j ∷ js) [] = ⊥
AreTaken numbers (j ∷ js) (v ∷ vs) = (in_range j ≡ true) × (tree_of numbers (tidy j) ≡ Some (tree v)) × AreTaken numbers js vs

taken_push : (numbers : Numbers) (js : List Json) (vs : List Val) (j : Json) (v : Val) → AreTaken numbers js vs → in_range j ≡ true → tree_of numbers (tidy j) ≡ Some (tree v)
    → AreTaken numbers (js ++ j ∷ []) (vs ++ v ∷ [])
taken_push numbers [] [] j v h fits is = (fits, is, tt)
taken_push numbers [] (w ∷ vs) j v h fits is = absurd h
taken_push numbers (i ∷ js) [] j v h fits is = absurd h
taken_push numbers (i ∷ js) (w ∷ vs) j v h fits is = (h.0, h.1, taken_push numbers js vs j v h.2 fits is)

taken_fit : (numbers : Numbers) (js : List Json) (vs : List Val) → AreTaken numbers js vs → items_in_range (items_before js no_items) ≡ true
taken_fit numbers [] vs h = refl
taken_fit numbers (i ∷ js) [] h = absurd h
taken_fit numbers (i ∷ js) (w ∷ vs) h = both_true (in_range i) _ h.0 (taken_fit numbers js vs h.2)

taken_items : (numbers : Numbers) (js : List Json) (vs : List Val) → AreTaken numbers js vs → items_of numbers (tidy_items (items_before js no_items)) ≡ Some (items_view vs)
taken_items numbers [] [] h = refl
taken_items numbers [] (w ∷ vs) h = absurd h
taken_items numbers (i ∷ js) [] h = absurd h
taken_items numbers (i ∷ js) (w ∷ vs) h = rw (h.1, taken_items numbers js vs h.2) refl

-- the items that are read so far, and what is left
pub record HasItems (numbers : Numbers) (depth : ℕ) (ts : List Token) (vs : List Val) (left : List Token) : Type 0 where
  pub count : ℕ
  pub read : List Json
  pub enough : length left ≤ count
  pub parsed : items (value depth) (length ts) ts ≡ parse_map (items_before read) (items (value depth) count left)
  pub taken : AreTaken numbers read vs
  pub within : length left ≤ length ts

module _ (numbers : Numbers) (depth : ℕ) (ts : List Token) where
  pub no_item_yet : HasItems numbers depth ts [] ts
  no_item_yet = record { count = length ts; read = []; enough = omega arith; parsed = none_before _; taken = tt; within = omega arith }

  pub no_item : (rest : List Token) → after_end_array ts ≡ Some rest → ReadsItems numbers depth ts values.no_items rest
  no_item rest end = (no_items, items_end (value depth) (length ts) ts rest (omega arith) end, refl, refl)

  pub one_item_more : (vs : List Val) (left rest : List Token) (v : Val) → HasItems numbers depth ts vs left → after_end_array left ≡ None → Reads numbers depth left (tree v) rest → length rest < length left
      → HasItems numbers depth ts (vs ++ v ∷ []) rest
  one_item_more vs left rest v h going r shorter =
      record {
        count = h.count - 1;
        read = h.read ++ r.0 ∷ [];
        enough = omega (arith, h.enough);
        parsed = h.parsed ∙ ap (parse_map (items_before h.read)) (items_more (value depth) h.count left rest r.0 (omega (arith, h.enough)) going r.1) ∙ one_more_item h.read r.0 _;
        taken = taken_push numbers h.read vs r.0 v h.taken r.2 r.3;
        within = omega (arith, h.within);
      }

  pub all_items : (vs : List Val) (left rest : List Token) → HasItems numbers depth ts vs left → after_end_array left ≡ Some rest → ReadsItems numbers depth ts (items_view vs) rest
  all_items vs left rest h end = (
    items_before h.read no_items,
    h.parsed ∙ ap (parse_map (items_before h.read)) (items_end (value depth) h.count left rest h.enough end),
    taken_fit numbers h.read vs h.taken,
    taken_items numbers h.read vs h.taken,
  )

-- ---- members

abbrev pub members_before : List (List ℕ × Json) → json.Members → json.Members
members_before [] rest = rest
members_before (m ∷ ms) rest = member m.0 m.1 (members_before ms rest)

members_push : (ms : List (List ℕ × Json)) (m : List ℕ × Json) (rest : json.Members) → members_before ms (member m.0 m.1 rest) ≡ members_before (ms ++ m ∷ []) rest
members_push [] m rest = refl
members_push (n ∷ ms) m rest = ap (member n.0 n.1) (members_push ms m rest)

pub one_more_member : (ms : List (List ℕ × Json)) (m : List ℕ × Json) (r : Option (json.Members × List Token)) → parse_map (members_before ms) (parse_map (member m.0 m.1) r) ≡ parse_map (members_before (ms ++ m ∷ [])) r
one_more_member ms m None = refl
one_more_member ms m (Some p) = ap (λ js. Some (js, p.1)) (members_push ms m p.0)

pub fit_push : (ms : List (List ℕ × Json)) (m : List ℕ × Json) → members_in_range (members_before ms no_members) ≡ true → in_range m.1 ≡ true → members_in_range (members_before (ms ++ m ∷ []) no_members) ≡ true
fit_push [] m h fits = both_true (in_range m.1) true fits refl
fit_push (n ∷ ms) m h fits = let p = both (in_range n.1) _ h in both_true (in_range n.1) _ p.0 (fit_push ms m p.1 fits)

pub tidy_push : (ms : List (List ℕ × Json)) (m : List ℕ × Json) (found : json.Members) → put m.0 (tidy m.1) (tidy_members (members_before ms no_members) found) ≡ tidy_members (members_before (ms ++ m ∷ []) no_members) found
tidy_push [] m found = refl
tidy_push (n ∷ ms) m found = tidy_push ms m (put n.0 (tidy n.1) found)

tidy_before : (ms : List (List ℕ × Json)) (rest found : json.Members) → tidy_members (members_before ms rest) found ≡ tidy_members rest (tidy_members (members_before ms no_members) found)
tidy_before [] rest found = refl
tidy_before (n ∷ ms) rest found = tidy_before ms rest (put n.0 (tidy n.1) found)

fit_before : (ms : List (List ℕ × Json)) (rest : json.Members) → members_in_range (members_before ms no_members) ≡ true → members_in_range rest ≡ true → members_in_range (members_before ms rest) ≡ true
fit_before [] rest h fits = fits
fit_before (n ∷ ms) rest h fits = let p = both (in_range n.1) _ h in both_true (in_range n.1) _ p.0 (fit_before ms rest p.1 fits)

-- the members that are read so far after those that make `before`, and what is left
pub record HasMembers (numbers : Numbers) (depth : ℕ) (ts : List Token) (before d : Members) (left : List Token) : Type 0 where
  pub read : List (List ℕ × Json)
  pub parsed : (n : ℕ) → length ts ≤ n → (count : ℕ) × (length left ≤ count) × (members (value depth) n ts ≡ parse_map (members_before read) (members (value depth) count left))
  pub fits : members_in_range (members_before read no_members) ≡ true
  pub taken : (found : json.Members) → members_of numbers found ≡ Some before → members_of numbers (tidy_members (members_before read no_members) found) ≡ Some d
  pub within : length left ≤ length ts

module _ (numbers : Numbers) (depth : ℕ) (ts : List Token) (before : Members) where
  pub no_member_yet : HasMembers numbers depth ts before before ts
  no_member_yet = record { read = []; parsed = λ n enough. (n, enough, none_before _); fits = refl; taken = λ found is. is; within = omega arith }

  pub one_member_more : (d : Members) (left rest : List Token) (k : List ℕ) (t : Tree) → HasMembers numbers depth ts before d left → ReadsMember numbers depth left (Some (k, t)) rest → length rest < length left
      → HasMembers numbers depth ts before (insert k t d) rest
  one_member_more d left rest k t h r shorter =
      let j = r.2.0 in
      record {
        read = h.read ++ (k, j) ∷ [];
        parsed = λ n enough.
            let p = h.parsed n enough in
            (p.0 - 1, omega (arith, p.1), p.2 ∙ ap (parse_map (members_before h.read)) (members_more (value depth) p.0 k left r.0 rest j (omega (arith, p.1)) r.1 r.2.1) ∙ one_more_member h.read (k, j) _);
        fits = fit_push h.read (k, j) h.fits r.2.2;
        taken = λ found is. ap (members_of numbers) (sym (tidy_push h.read (k, j) found)) ∙ put_read numbers k (tidy j) t _ d r.2.3 (h.taken found is);
        within = omega (arith, h.within);
      }

  pub all_members : (d : Members) (left rest : List Token) → HasMembers numbers depth ts before d left → ReadsMember numbers depth left None rest → ReadsMore numbers depth ts before d rest
  all_members d left rest h end = (
    members_before h.read no_members,
    (λ n enough. let p = h.parsed n enough in p.2 ∙ ap (parse_map (members_before h.read)) (members_end (value depth) p.0 left rest p.1 end)),
    h.fits,
    h.taken,
  )

  pub more_members : (d e : Members) (left rest : List Token) → HasMembers numbers depth ts before d left → ReadsMore numbers depth left d e rest → ReadsMore numbers depth ts before e rest
  more_members d e left rest h r = (
    members_before h.read r.0,
    (λ n enough. let p = h.parsed n enough in p.2 ∙ ap (parse_map (members_before h.read)) (r.1 p.0 p.1)),
    fit_before h.read r.0 h.fits r.2,
    (λ found is. ap (members_of numbers) (tidy_before h.read r.0 found) ∙ r.3 _ (h.taken found is)),
  )

pub whole_object : (numbers : Numbers) (depth : ℕ) (ts : List Token) (d : Members) (rest : List Token) → ReadsMore numbers depth ts values.no_members d rest → ReadsMembers numbers depth ts d rest
whole_object numbers depth ts d rest r = (r.0, r.1 (length ts) (omega arith), r.2, r.3 no_members refl)

-- ---- options

pub some_of_ok : {A E : Type 0} (r : Result A E) (o : Option A) (x : A) (P : A → Type 0) → o ≡ result_ok r → IfOk r (λ a. a ≡ x) → P x → IfSome o P
some_of_ok (Ok a) o x P same is p = subst (λ o. IfSome o P) (sym same) (subst P (sym is) p)
some_of_ok (Err e) o x P same is p = subst (λ o. IfSome o P) (sym same) tt

module _ (numbers : Numbers) (depth : ℕ) (ts rest : List Token) (o : Option Member) where
  pub as_member : (m : Member) → o ≡ Some m → ReadsMember numbers depth ts (option_map (λ n. (n.key, tree n.value)) o) rest → ReadsMember numbers depth ts (Some (m.key, tree m.value)) rest
  as_member m is r = subst (λ p. ReadsMember numbers depth ts (option_map (λ n. (n.key, tree n.value)) p) rest) is r

  pub as_end : o ≡ None → ReadsMember numbers depth ts (option_map (λ n. (n.key, tree n.value)) o) rest → ReadsMember numbers depth ts None rest
  as_end is r = subst (λ p. ReadsMember numbers depth ts (option_map (λ n. (n.key, tree n.value)) p) rest) is r

pub ordered_inside : (o : Option Member) (m : Member) → o ≡ Some m → IfSome o (λ n. is_ordered (tree n.value) ≡ true) → is_ordered (tree m.value) ≡ true
ordered_inside o m is h = subst (λ p. IfSome p (λ n. is_ordered (tree n.value) ≡ true)) is h

pub if_some : {A : Type 0} (o : Option A) (P Q : A → Type 0) → ((a : A) → P a → Q a) → IfSome o P → IfSome o Q
if_some None P Q f h = tt
if_some (Some a) P Q f h = f a h

-- a number that is taken is in range
pub number_read : (numbers : Numbers) (depth : ℕ) (ts rest : List Token) (s : List ℕ) (o : Option Val) → value depth ts ≡ Some (json.number s, rest) → OnSome o (is_some (number_of s) ≡ true)
    → IfSome o (λ v. taken_as numbers s ≡ Some (tree v)) → IfSome o (λ v. Reads numbers depth ts (tree v) rest)
number_read numbers depth ts rest s None parsed fits is = tt
number_read numbers depth ts rest s (Some v) parsed fits is = (json.number s, parsed, fits, is)
