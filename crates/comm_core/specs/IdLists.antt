-- The ids that a list of them has; for private clauses.
use Rattle.std.specs.Prelude.{ℕ, List, [], ◌∷◌}
use Rattle.comm_core.specs.declared.ids.IdList.{IdList}
use Rattle.comm_core.specs.declared.ids.IdList.TheVariants.{One, Many}

abbrev pub ids_in : IdList → List (List ℕ)
ids_in (One alloc id) = id ∷ []
ids_in (Many all) = all.items
