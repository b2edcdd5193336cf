-- A value that is read straight from the tokens of a text, and what is left of them (RFC 8259, 2 and 3).
use Rattle.std.specs.Prelude.{◌≡◌, ◌≤◌, ℕ, List, length, Option, Some, None, true}
use Rattle.json.specs.Json as json
use Rattle.json.specs.Token.{Token}
use Rattle.comm_json.specs.Behind.{in_range, items_in_range, members_in_range, tidy, tidy_items, tidy_members}
use Rattle.comm_value.specs.Tree.{Tree, Items, Members}
use Rattle.comm_value.specs.FromJson.{tree_of, items_of, members_of}
use Rattle.comm_value.specs.declared.from_json.Numbers.{Numbers}

-- the next value of the tokens, which nests no deeper than the number
abbrev pub Reads : Numbers → ℕ → List Token → Tree → List Token → Type 0
Reads numbers depth ts t rest =
    (j : json.Json) × (json.value depth ts ≡ Some (j, rest)) × (in_range j ≡ true) × (tree_of numbers (tidy j) ≡ Some t)

-- the items of a list that has begun, to its end
abbrev pub ReadsItems : Numbers → ℕ → List Token → Items → List Token → Type 0
ReadsItems numbers depth ts is rest =
    (js : json.Items) × (json.items (json.value depth) (length ts) ts ≡ Some (js, rest)) × (items_in_range js ≡ true)
    × (items_of numbers (tidy_items js) ≡ Some is)

-- the next member of an object that has begun, or its end
abbrev pub ReadsMember : Numbers → ℕ → List Token → Option (List ℕ × Tree) → List Token → Type 0
ReadsMember numbers depth ts None rest = json.read_key ts ≡ Some (None, rest)
ReadsMember numbers depth ts (Some m) rest = (next : List Token) × (json.read_key ts ≡ Some (Some m.0, next)) × Reads numbers depth next m.1 rest

-- the members of an object that has begun, to its end
abbrev pub ReadsMembers : Numbers → ℕ → List Token → Members → List Token → Type 0
ReadsMembers numbers depth ts d rest =
    (ms : json.Members) × (json.members (json.value depth) (length ts) ts ≡ Some (ms, rest)) × (members_in_range ms ≡ true)
    × (members_of numbers (tidy_members ms json.no_members) ≡ Some d)

-- the members that follow others of an object, and what they make of those
abbrev pub ReadsMore : Numbers → ℕ → List Token → Members → Members → List Token → Type 0
ReadsMore numbers depth ts before d rest =
    (ms : json.Members) × ((n : ℕ) → length ts ≤ n → json.members (json.value depth) n ts ≡ Some (ms, rest)) × (members_in_range ms ≡ true)
    × ((found : json.Members) → members_of numbers found ≡ Some before → members_of numbers (tidy_members ms found) ≡ Some d)
