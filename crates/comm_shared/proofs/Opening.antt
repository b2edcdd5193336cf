-- What stands where nothing was changed yet.
use Rattle.std.proofs.Common.{◌≡◌, ℕ, true, List, [], replicate, refl, sym, subst, arith}
use Rattle.std.proofs.lemmas.List.{get_or-replicate, length-replicate}
use Rattle.comm_core.specs.Ready.{CoreValue, state}
use Rattle.comm_core.specs.declared.entry.Entry.{Entry}
use Rattle.comm_versions.specs.Known.{Known, Origin, known}
use Rattle.comm_shared.specs.Between.{AreCounts, Stands}
use Rattle.comm_shared.specs.SharedView.{seats}

none_made : AreCounts (replicate seats 0) []
none_made = record {
  all = length-replicate {A = ℕ} seats 0;
  each = λ c low. get_or-replicate {A = ℕ} seats c 0 0 low;
}

first : (o : Origin) → o.clients ≡ seats → Stands (known o []) (state o.limit [] [] true) (replicate seats 0)
first o clients = record {
  legal = tt;
  going = refl;
  clients_are = clients;
  rests = record { settled = refl; limit_is = refl; machine_is = refl };
  totals_are = none_made;
  few = omega arith;
}

pub stands_first : (k : Known) (core : CoreValue) (totals : List ℕ) → k.entries ≡ [] → k.origin.clients ≡ seats → core ≡ state k.origin.limit [] [] true → totals ≡ replicate seats 0 → Stands k core totals
stands_first k core totals none clients new made =
    let whole : Stands (known k.origin []) (state k.origin.limit [] [] true) (replicate seats 0) = first k.origin clients in
    subst (λ (x : List Entry × CoreValue × List ℕ). Stands (known k.origin x.0) x.1 x.2) (λ i. (sym none i, sym new i, sym made i)) whole
