-- That the client of a line has heard of the last change.
use Rattle.std.specs.Prelude.{List, [], Option, Some, None}
use Rattle.std.proofs.Common.{append-nil}
use mathlib.Core.List.{IsPrefix}
use Rattle.comm_core.specs.declared.entry.Entry.{Entry}

-- what was seen begins with the front of the last change, if there is one
abbrev pub HasHeard : Option (List Entry) → List Entry → Type 0
HasHeard None seen = Unit {0}
HasHeard (Some last) seen = IsPrefix last seen

-- the front of the last change begins that of the one that is the last now
abbrev pub IsLater : (old new : Option (List Entry)) → Type 0
IsLater None new = Unit {0}
IsLater (Some old) None = ⊥
IsLater (Some old) (Some new) = IsPrefix old new

-- no front is before itself
pub later_self : (last : Option (List Entry)) → IsLater last last
later_self None = tt
later_self (Some last) = ([], append-nil last)
