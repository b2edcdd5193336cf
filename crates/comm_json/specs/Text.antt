-- The compact text of a JSON value (RFC 8259): no space, the shortest escapes, and each number as its text stands.
use Rattle.std.specs.Prelude.{ℕ, List, ◌∷◌, [], ◌++◌, Bool, true, false}
use Rattle.json.specs.Token.{Token}
use Rattle.json.specs.Print.{quoted, token_text}
use Rattle.json.specs.Json.{Json, null, boolean, number, string, array, object}
use Rattle.json.specs.Json.{Items, no_items, item, Members, no_members, member}
use Rattle.serde_json.specs.Written.{comma_if}

abbrev mutual
  pub compact_text : Json → List ℕ
  compact_text null = token_text Token.null
  compact_text (boolean b) = token_text (Token.boolean b)
  compact_text (number s) = s
  compact_text (string s) = quoted s
  compact_text (array js) = 91 ∷ items_text false js
  compact_text (object ms) = 123 ∷ members_text false ms

  -- with the closing bracket
  pub items_text : Bool → Items → List ℕ
  items_text later no_items = 93 ∷ []
  items_text later (item j js) = comma_if later ++ (compact_text j ++ items_text true js)

  pub members_text : Bool → Members → List ℕ
  members_text later no_members = 125 ∷ []
  members_text later (member k j ms) = comma_if later ++ (quoted k ++ 58 ∷ (compact_text j ++ members_text true ms))
