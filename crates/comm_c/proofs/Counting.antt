-- The changes of each client, with one change more.
use Rattle.std.proofs.Common.{◌≡◌, ◌≢◌, ℕ, zero, suc, ◌+◌, ◌<◌, List, [], ◌∷◌, ◌++◌, length, get_or, set, true, false, Option, refl, sym, append-nil, length-append, get_or-set_other, get_or-set_same}
use Rattle.std.specs.Prelude.{◌==◌}
use Rattle.std.proofs.lemmas.Bool.{ne_eqb, eqb-false, true_from_ne_false}
use Rattle.std.proofs.lemmas.List.Elements.{filter-append}
use Rattle.comm_core.specs.declared.call.Call.{Call}
use Rattle.comm_core.specs.History.{mine, applied, replay, is_of}
use Rattle.comm_core.specs.Step.{Outcome, Stepped}
use Rattle.comm_core.specs.declared.entry.Entry.{Entry}
use Rattle.comm_core.specs.declared.entry.Entry.TheVariants.{Change}

-- what one entry more does to what the manager holds
abbrev pub Grows : Type 0
Grows = (comms : ℕ) (es : List Entry) (e : Entry) → replay comms (es ++ e ∷ []) ≡ applied comms (replay comms es) e

module _ (h : List Entry) (client : ℕ) where
  pub own_made : (number : ℕ) (c : Call) (o : Option Outcome) (S : Stepped) (made : List ℕ) → client < length made → get_or made client 0 ≡ length (mine h client)
      → get_or (set made client (get_or made client 0 + 1)) client 0 ≡ length (mine (h ++ Change client number c o S.reply S.outgoing ∷ []) client)
  own_made number c o S made below is =
      let same : (client == client) ≡ true = true_from_ne_false _ (λ e. eqb-false client client e refl) in
      rw (filter-append (is_of client) h (Change client number c o S.reply S.outgoing ∷ []), length-append, same, get_or-set_same, is) refl

  pub other_made : (k number : ℕ) (c : Call) (o : Option Outcome) (S : Stepped) (made : List ℕ) → k ≢ client → get_or made k 0 ≡ length (mine h k)
      → get_or (set made client (get_or made client 0 + 1)) k 0 ≡ length (mine (h ++ Change client number c o S.reply S.outgoing ∷ []) k)
  other_made k number c o S made apart is =
      let other : (client == k) ≡ false = ne_eqb client k (λ e. apart (sym e)) in
      rw (filter-append (is_of k) h (Change client number c o S.reply S.outgoing ∷ []), other, append-nil, get_or-set_other, is) refl

-- what each client has made at first
abbrev none_made : List ℕ
none_made = 0 ∷ 0 ∷ 0 ∷ 0 ∷ []

pub zeros : (c : ℕ) → get_or none_made c 0 ≡ 0
zeros zero = refl
zeros (suc zero) = refl
zeros (suc (suc zero)) = refl
zeros (suc (suc (suc zero))) = refl
zeros (suc (suc (suc (suc c)))) = refl
