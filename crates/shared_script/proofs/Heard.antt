-- A client that has heard of the last change makes a later one.
use Rattle.std.proofs.Common.{◌≡◌, List, sym, subst}
use Rattle.std.specs.Prelude.{Option, Some, None, Result, Ok, Err, IfOk, MatchResult}
use mathlib.Core.List.{IsPrefix}
use Rattle.comm_core.specs.declared.entry.Entry.{Entry}
use Rattle.comm_versions.proofs.Fronts.{prefix_trans}
use Rattle.shared_script.specs.Heard.{HasHeard, IsLater, later_self}

later_front : (last : Option (List Entry)) (seen front : List Entry) → HasHeard last seen → IsPrefix seen front → IsLater last (Some front)
later_front None seen front h p = tt
later_front (Some last) seen front h p = prefix_trans last seen front h p

-- its front is kept as that of the last change, by a client that had heard of the one before
pub kept_later : {A E : Type 0} (made : Result A E) (front : A → List Entry) (last now : Option (List Entry)) (seen : List Entry)
    → MatchResult made (λ a. now ≡ Some (front a)) (λ _. now ≡ last) → IfOk made (λ a. IsPrefix seen (front a)) → HasHeard last seen → IsLater last now
kept_later (Ok a) front last now seen is p h = subst (λ (n : Option (List Entry)). IsLater last n) (sym is) (later_front last seen (front a) h p)
kept_later (Err e) front last now seen is p h = subst (λ (n : Option (List Entry)). IsLater last n) (sym is) (later_self last)
