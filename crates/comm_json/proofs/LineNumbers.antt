-- The numbers of a line's value are JSON numbers within a float's range.
use Rattle.std.proofs.Common.{◌≡◌, ℕ, List, [], ◌∷◌, Bool, true, false, cond, Option, Some, None}
use Rattle.std.proofs.Common.{Ordering, Less, Equal, Greater, nat_cmp, refl, subst}
use Rattle.std.specs.Prelude.{⊤, option_and_then}
use Rattle.std.specs.Str.{is_utf8}
use Rattle.std.specs.Cmp.Lexicographic.{slice_cmp}
use Rattle.std.specs.Ordering.{match_ordering}
use Rattle.std.proofs.lemmas.Bool.{and_parts}
use Rattle.json.specs.Token.{Token}
use Rattle.json.specs.Lex.{tokens}
use Rattle.json.specs.Json.{Json, null, boolean, number, string, array, object, value, if_last}
use Rattle.json.specs.Json.{Items, no_items, item, Members, no_members, member}
use Rattle.json.specs.Tree.{HasNumbers, ItemsHaveNumbers, MembersHaveNumbers}
use Rattle.json.proofs.Numbered.{ArePrintableOrBad-tokens, value-HasNumbers}
use Rattle.serde_json.specs.Read.{max_depth}
use Rattle.comm_json.specs.Behind.{in_range, items_in_range, members_in_range, if_in_range, put, get_member}
use Rattle.comm_json.specs.Behind.{tidy, tidy_items, tidy_members, text_value, line_value}
use Rattle.comm_json.specs.Numbers.{NumbersInRange, ItemsInRange, MembersInRange}

-- ---- numbers that are texts of JSON numbers, and in range

mutual
  both : (j : Json) → HasNumbers j → in_range j ≡ true → NumbersInRange j
  both null h r = tt
  both (boolean b) h r = tt
  both (number s) h r = (h, r)
  both (string s) h r = tt
  both (array js) h r = items_both js h r
  both (object ms) h r = members_both ms h r

  items_both : (js : Items) → ItemsHaveNumbers js → items_in_range js ≡ true → ItemsInRange js
  items_both no_items h r = tt
  items_both (item j js) h r =
      let p = and_parts (in_range j) (items_in_range js) r in (both j h.0 p.0, items_both js h.1 p.1)

  members_both : (ms : Members) → MembersHaveNumbers ms → members_in_range ms ≡ true → MembersInRange ms
  members_both no_members h r = tt
  members_both (member k j ms) h r =
      let p = and_parts (in_range j) (members_in_range ms) r in (both j h.0 p.0, members_both ms h.1 p.1)

-- ---- a tidy value has them too

put_at : (o : Ordering) (k l : List ℕ) (j i : Json) (ms : Members) → NumbersInRange j → NumbersInRange i
    → MembersInRange ms → MembersInRange (put k j ms)
    → MembersInRange (match_ordering o (member k j (member l i ms)) (member l j ms) (member l i (put k j ms)))
put_at Less k l j i ms new old rest later = (new, (old, rest))
put_at Equal k l j i ms new old rest later = (new, rest)
put_at Greater k l j i ms new old rest later = (old, later)

put_kept : (k : List ℕ) (j : Json) (ms : Members) → NumbersInRange j → MembersInRange ms
    → MembersInRange (put k j ms)
put_kept k j no_members new all = (new, tt)
put_kept k j (member l i ms) new all =
    put_at (slice_cmp nat_cmp k l) k l j i ms new all.0 all.1 (put_kept k j ms new all.1)

mutual
  tidy_kept : (j : Json) → NumbersInRange j → NumbersInRange (tidy j)
  tidy_kept null h = tt
  tidy_kept (boolean b) h = tt
  tidy_kept (number s) h = h
  tidy_kept (string s) h = tt
  tidy_kept (array js) h = items_kept js h
  tidy_kept (object ms) h = members_kept ms no_members h tt

  items_kept : (js : Items) → ItemsInRange js → ItemsInRange (tidy_items js)
  items_kept no_items h = tt
  items_kept (item j js) h = (tidy_kept j h.0, items_kept js h.1)

  members_kept : (ms found : Members) → MembersInRange ms → MembersInRange found
      → MembersInRange (tidy_members ms found)
  members_kept no_members found h so_far = so_far
  members_kept (member k j ms) found h so_far =
      members_kept ms (put k (tidy j) found) h.1 (put_kept k (tidy j) found (tidy_kept j h.0) so_far)

-- ---- the value of a line

abbrev pub IfFound : Option Json → Type 0
IfFound None = ⊤
IfFound (Some j) = NumbersInRange j

checked : (b : Bool) (j : Json) → in_range j ≡ b → HasNumbers j → IfFound (cond b (Some (tidy j)) None)
checked true j r h = tidy_kept j (both j h r)
checked false j r h = tt

last : (o : Option (Json × List Token)) → ((j : Json) (rest : List Token) → o ≡ Some (j, rest) → HasNumbers j)
    → IfFound (option_and_then if_in_range (option_and_then (λ p. if_last p.0 p.1) o))
last None h = tt
last (Some (j, [])) h = checked (in_range j) j refl (h j [] refl)
last (Some (j, t ∷ ts)) h = tt

of_text : (text : List ℕ) → IfFound (text_value text)
of_text text =
    last (value max_depth (tokens text))
    (λ j rest is. value-HasNumbers max_depth (tokens text) rest j (ArePrintableOrBad-tokens text) is)

of_line : (b : Bool) (text : List ℕ) → IfFound (cond b (text_value text) None)
of_line true text = of_text text
of_line false text = tt

pub in_line : (line : List ℕ) (j : Json) → line_value line ≡ Some j → NumbersInRange j
in_line line j is = subst IfFound is (of_line (is_utf8 line) line)

-- ---- a member's value

found_at : (o : Ordering) (j : Json) (later : Option Json) → NumbersInRange j → IfFound later
    → IfFound (match_ordering o later (Some j) later)
found_at Less j later h more = more
found_at Equal j later h more = h
found_at Greater j later h more = more

pub in_member : (k : List ℕ) (ms : Members) → MembersInRange ms → IfFound (get_member k ms)
in_member k no_members h = tt
in_member k (member l j ms) h = found_at (slice_cmp nat_cmp k l) j (get_member k ms) h.0 (in_member k ms h.1)
