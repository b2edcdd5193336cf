-- JSON values whose numbers a line may have.
use Rattle.std.specs.Prelude.{◌≡◌, true, is_some, List, ℕ, ⊤}
use Rattle.json.specs.Json.{Json, null, boolean, number, string, array, object}
use Rattle.json.specs.Json.{Items, no_items, item, Members, no_members, member}
use Rattle.json.specs.Print.{IsNumber}
use Rattle.serde_json.specs.Read.{number_of}

-- the text of a JSON number (RFC 8259, 6) within a float's range
abbrev pub IsInRange : List ℕ → Type 0
IsInRange s = IsNumber s × (is_some (number_of s) ≡ true)

-- each number is such a text
abbrev mutual
  pub NumbersInRange : Json → Type 0
  NumbersInRange null = ⊤
  NumbersInRange (boolean b) = ⊤
  NumbersInRange (number s) = IsInRange s
  NumbersInRange (string s) = ⊤
  NumbersInRange (array js) = ItemsInRange js
  NumbersInRange (object ms) = MembersInRange ms

  pub ItemsInRange : Items → Type 0
  ItemsInRange no_items = ⊤
  ItemsInRange (item j js) = NumbersInRange j × ItemsInRange js

  pub MembersInRange : Members → Type 0
  MembersInRange no_members = ⊤
  MembersInRange (member k j ms) = NumbersInRange j × MembersInRange ms
