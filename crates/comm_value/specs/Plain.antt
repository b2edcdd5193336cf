-- The nodes of a value without its bytes.
use Rattle.std.specs.Prelude.{ℕ, List, Bool, true, false, Option, Some, None}
use Rattle.std.specs.List.{filter}
use Rattle.comm_value.specs.Tree.{Tree}
use Rattle.comm_value.specs.Node.{Path, Shape, of_null, of_bytes, dict_with, node}
use Rattle.comm_value.specs.declared.path.Step.{Step}
use Rattle.comm_value.specs.declared.path.Step.TheVariants.{Key, Index}

abbrev pub are_bytes : Option Shape → Bool
are_bytes (Some (of_bytes b)) = true
are_bytes o = false

-- whether bytes stand at the path
abbrev pub is_place : Tree → Path → Bool
is_place t p = are_bytes (node t p)

-- what stands where bytes stood: null in a list, nothing in a dict
abbrev pub instead_of_bytes : Step → Option Shape
instead_of_bytes (Index n) = Some of_null
instead_of_bytes (Key k) = None

-- a dict with those of its keys that pass the test
abbrev pub with_keys : (List ℕ → Bool) → Shape → Shape
with_keys test (dict_with ks) = dict_with (filter test ks)
with_keys test s = s
