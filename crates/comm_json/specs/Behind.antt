-- A JSON value behind a reference: an owned one of serde_json, or one of the kit's json that borrows from a line.
use Rattle.std.specs.Prelude.{ℕ, suc, ◌<◌, ◌^◌, ℤ, pos, negsuc, List, [], ◌∷◌, Bool, true, ◌&&◌, Option, Some, None}
use Rattle.std.specs.Prelude.{is_some, false, option_map, unwrap_or, option_and_then, if◌then◌else◌}
use Rattle.std.specs.Ordering.{nat_cmp, match_ordering}
use Rattle.std.specs.Cmp.Lexicographic.{slice_cmp}
use Rattle.std.specs.List.Sorted.{IsStrictlySortedBy}
use Rattle.std.specs.Map.{keys_of}
use Rattle.std.specs.declared.cmp.Ordering.{Ordering}
use Rattle.std.specs.Borrow.{Bor}
use Rattle.json.specs.Json.{Json, null, boolean, number, string, array, object, value, if_last}
use Rattle.json.specs.Json.{Items, no_items, item, Members, no_members, member}
use Rattle.json.specs.Lex.{tokens}
use Rattle.json.specs.Value.{value_view, items_view as borrowed_items, members_view as borrowed_members}
use Rattle.serde_json.specs.Read.{number_of, max_depth}
use Rattle.json.specs.Word.{after_number}
use Rattle.serde_json.specs.Find.{as_integer, is_float}
use Rattle.serde_json.specs.Written.{number_text, outline, items_outline, members_outline}
use Rattle.std.specs.Str.{is_utf8}
use Rattle.serde_json.specs.View.{view, number_view, items_view, members_view}
use Rattle.comm_json.specs.declared.json_ref.JsonRef.{JsonRef}
use Rattle.comm_json.specs.declared.json_ref.JsonRef.TheVariants as r
use Rattle.comm_json.specs.declared.json_ref.ItemsRef.{ItemsRef}
use Rattle.comm_json.specs.declared.json_ref.ItemsRef.TheVariants as items_ref
use Rattle.comm_json.specs.declared.json_ref.ObjectRef.{ObjectRef}
use Rattle.comm_json.specs.declared.json_ref.ObjectRef.TheVariants as object_ref
use Rattle.comm_json.specs.declared.in_order.MembersInOrder.{MembersInOrder}
use Rattle.comm_json.specs.declared.in_order.MembersInOrder.TheVariants as in_order
use Rattle.comm_json.specs.declared.json_number.NumberRef.{NumberRef}
use Rattle.comm_json.specs.declared.json_number.NumberRef.TheVariants as number_ref
use Rattle.comm_json.specs.declared.json_ref.JsonKind.{JsonKind}
use Rattle.comm_json.specs.declared.json_ref.JsonKind.TheVariants as kind

-- the members, with j at k
abbrev pub put : List ℕ → Json → Members → Members
put k j no_members = member k j no_members
put k j (member l i ms) =
    match_ordering (slice_cmp nat_cmp k l) (member k j (member l i ms)) (member l j ms) (member l i (put k j ms))

-- the same value with each object's keys in order, each once: of several members with one key the last counts
abbrev mutual
  pub tidy : Json → Json
  tidy null = null
  tidy (boolean b) = boolean b
  tidy (number s) = number s
  tidy (string s) = string s
  tidy (array js) = array (tidy_items js)
  tidy (object ms) = object (tidy_members ms no_members)

  pub tidy_items : Items → Items
  tidy_items no_items = no_items
  tidy_items (item j js) = item (tidy j) (tidy_items js)

  pub tidy_members : Members → Members → Members
  tidy_members no_members found = found
  tidy_members (member k j ms) found = tidy_members ms (put k (tidy j) found)

-- the member with this key
abbrev pub get_member : List ℕ → Members → Option Json
get_member k no_members = None
get_member k (member l j ms) = match_ordering (slice_cmp nat_cmp k l) (get_member k ms) (Some j) (get_member k ms)

-- whether serde_json takes each number: none is too large for a float
abbrev mutual
  pub in_range : Json → Bool
  in_range (number s) = is_some (number_of s)
  in_range (array js) = items_in_range js
  in_range (object ms) = members_in_range ms
  in_range _ = true

  pub items_in_range : Items → Bool
  items_in_range no_items = true
  items_in_range (item j js) = in_range j && items_in_range js

  pub members_in_range : Members → Bool
  members_in_range no_members = true
  members_in_range (member k j ms) = in_range j && members_in_range ms

abbrev pub if_in_range : Json → Option Json
if_in_range j = if in_range j then Some (tidy j) else None

-- a number's text; a float that serde_json made has none
abbrev pub number_ref_text : NumberRef → List ℕ
number_ref_text (number_ref.Read n) = number_text (number_view n)
number_ref_text (number_ref.Written s) = s.now

-- the whole number that a text is: `1.0`, `-0` and what lies beyond 64 bits are none
abbrev pub whole_of : List ℕ → Option ℤ
whole_of s = option_and_then as_integer (number_of s)

abbrev pub ends : Option (List ℕ) → Bool
ends (Some []) = true
ends _ = false

-- the text of a JSON number (RFC 8259, 6) that serde_json takes, as a float
abbrev pub is_decimal : List ℕ → Bool
is_decimal s = ends (after_number s) && unwrap_or (option_map is_float (number_of s)) false

-- within 64 bits, with a sign or without
abbrev pub Fits : ℤ → Type 0
Fits (pos n) = n < 2 ^ 64
Fits (negsuc n) = n < 2 ^ 63

-- the value behind a reference
abbrev pub behind : JsonRef → Json
behind (r.Owned v) = outline (view v.now)
behind (r.Borrowed v) = tidy (value_view v.now)

abbrev pub items : ItemsRef → Items
items (items_ref.Owned vs) = items_outline (items_view vs.now.items)
items (items_ref.Borrowed vs) = tidy_items (borrowed_items vs.now.items)

abbrev pub members : ObjectRef → Members
members (object_ref.Owned m) = members_outline (members_view m.now.entries)
members (object_ref.Borrowed ms) = tidy_members (borrowed_members ms.now.items) no_members

-- the value whose kind, items and members these are
abbrev pub value_of_kind : JsonKind → Json
value_of_kind kind.Null = null
value_of_kind (kind.Bool b) = boolean b
value_of_kind (kind.Number n) = number (number_ref_text n)
value_of_kind (kind.Text s) = string s.now
value_of_kind (kind.Items is) = array (items is)
value_of_kind (kind.Object o) = object (members o)

-- the JSON value that a text is, and nothing after it (RFC 8259, 2)
abbrev pub text_value : List ℕ → Option Json
text_value text = option_and_then if_in_range (option_and_then (λ p. if_last p.0 p.1) (value max_depth (tokens text)))

-- the JSON value of a line: it is UTF-8 (RFC 8259, 8.1)
abbrev pub line_value : List ℕ → Option Json
line_value bytes = if is_utf8 bytes then text_value bytes else None

-- keys behind references, by their bytes
abbrev pub text_cmp : Bor (List ℕ) → Bor (List ℕ) → Ordering
text_cmp a b = slice_cmp nat_cmp a.now b.now

-- members behind references, as data
abbrev pub members_of : List (Bor (List ℕ) × JsonRef) → Members
members_of [] = no_members
members_of (m ∷ ms) = member m.0.now (behind m.1) (members_of ms)

-- the members in the order of their keys
abbrev pub member_refs : MembersInOrder → List (Bor (List ℕ) × JsonRef)
member_refs (in_order.Owned all) = all.items
member_refs (in_order.Borrowed all) = all.items

abbrev pub AreInOrder : List (Bor (List ℕ) × JsonRef) → Type 0
AreInOrder ms = IsStrictlySortedBy text_cmp (keys_of ms)

-- the number of items
abbrev pub items_count : Items → ℕ
items_count no_items = 0
items_count (item j js) = suc (items_count js)
