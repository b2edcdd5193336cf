-- Each call makes one change more of a legal history, or none.
use Rattle.std.proofs.Common.{◌≡◌, ℕ, ◌+◌, ◌<◌, List, [], ◌∷◌, ◌++◌, length, get_or, false, Option, None, Some, Ok, Err, refl, sym, ap, subst, ◌∙◌, inl, inr, length-append, append-nil, length-set, arith}
use Rattle.std.specs.Prelude.{pos}
use Rattle.std.proofs.lemmas.Bool.Decides.{eqb_tells}
use Rattle.comm_core.specs.declared.call.Call.{Call}
use Rattle.comm_core.specs.History.{mine, next_of, replay, has_end, IsLegal, Follows}
use Rattle.comm_core.specs.Machine.{Machine, Name}
use Rattle.comm_core.specs.Ready.{machine}
use Rattle.comm_core.specs.Step.{Outcome, Stepped, step, asks, Allowed}
use Rattle.comm_core.specs.declared.entry.Entry.{Entry}
use Rattle.comm_core.specs.declared.entry.Entry.TheVariants.{Change, End}
use Rattle.comm_messages.specs.Fields.{below}
use Rattle.comm_messages.specs.Gives as message
use Rattle.comm_targets.specs.declared.kind.Kind.{Kind}
use Rattle.comm_script.specs.Line.{Reading}
use Rattle.comm_script.specs.declared.asked.Request.{Request}
use Rattle.comm_script.specs.declared.asked.Request.TheVariants as asks_for
use Rattle.comm_c.specs.CountedCore.{Changes}
use Rattle.comm_c.specs.Legal.{HasMade, MakesOne, CallsMakeLegalHistories}
use Rattle.comm_c.specs.Handles.{AnswersIf, AnswersReading, Executes, GivesOnly, Handles, RegistersBy}
use Rattle.comm_c.specs.declared.call_result.CallResult.{CallResult}
use Rattle.comm_c.specs.declared.counted_core.CountedCore.{CountedCore}
use Rattle.comm_c.specs.declared.input.Input.{Input}
use Rattle.comm_c.proofs.Counting.{Grows, own_made, other_made, zeros}

-- a legal history grows
abbrev pub GrowsLegal : Type 0
GrowsLegal = (clients comms : ℕ) (es : List Entry) (e : Entry) → IsLegal clients comms es → Follows clients comms es e → IsLegal clients comms (es ++ e ∷ [])

still_open : (es : List Entry) (client number : ℕ) (c : Call) (o : Option Outcome) (S : Stepped) → has_end es ≡ false → has_end (es ++ Change client number c o S.reply S.outgoing ∷ []) ≡ false
still_open [] client number c o S none = refl
still_open (End ∷ es) client number c o S none = cc
still_open (Change k n a p r g ∷ es) client number c o S none = still_open es client number c o S none

change_one : GrowsLegal → Grows → (h : List Entry) (d : CountedCore) (client : ℕ) (c : Call) (after : CountedCore) (result : CallResult) → HasMade h d → Changes d client c after result → MakesOne h after
change_one legal grows h d client c after result has ch =
    let S : Stepped = record { reply = ch.reply; outgoing = ch.outgoing; next = machine after.core } in
    let number : ℕ = length (mine h client) + 1 in
    let e : Entry = Change client number c ch.outcome ch.reply ch.outgoing in
    let m : Machine = replay d.core.limit h in
    let is : step d.core.limit m c ch.outcome ≡ Some S = subst (λ (m : Machine). step d.core.limit m c ch.outcome ≡ Some S) has.machine_is ch.step_is in
    let allowed : Allowed m (asks d.core.limit m c) ch.outcome = subst (λ (m : Machine). Allowed m (asks d.core.limit m c) ch.outcome) has.machine_is ch.allowed in
    let follows : Follows 4 d.core.limit h e = (has.goes_on, ch.below, refl, allowed, (S, is, refl, refl)) in
    let below : client < length d.made = let f : length d.made ≡ 4 = has.clients in let b : client < 4 = ch.below in omega (arith, f, b) in
    let grown : replay d.core.limit (h ++ e ∷ []) ≡ machine after.core = grows d.core.limit h e ∙ ap (next_of m) is in
    record {
      more = e ∷ [];
      one = omega arith;
      has = record {
        legal = subst (λ (l : ℕ). IsLegal 4 l (h ++ e ∷ [])) (sym ch.limit) (legal 4 d.core.limit h e has.legal follows);
        goes_on = still_open h client number c ch.outcome S has.goes_on;
        machine_is = sym (ap (λ (l : ℕ). replay l (h ++ e ∷ [])) ch.limit ∙ grown);
        changes = ch.changes ∙ ap (λ (n : ℕ). n + 1) has.changes ∙ sym (length-append h (e ∷ []));
        made = λ k few. subst (λ (ms : List ℕ). get_or ms k 0 ≡ length (mine (h ++ e ∷ []) k)) (sym ch.made) (elim (eqb_tells k client) [
          | inl is ↦ rw is.1 (own_made h client number c ch.outcome S d.made below (has.made client ch.below))
          | inr is ↦ other_made h client k number c ch.outcome S d.made is.1 (has.made k few)
        ]);
        clients = ap (λ (ms : List ℕ). length ms) ch.made ∙ length-set d.made client (get_or d.made client 0 + 1) ∙ has.clients;
      };
    }

gives_none : (h : List Entry) (d after : CountedCore) (given result : CallResult) → HasMade h d → GivesOnly d given after result → MakesOne h after
gives_none h d after given result has s = record {
  more = [];
  one = omega arith;
  has = subst (λ (es : List Entry). HasMade es after) (sym (append-nil h)) (subst (λ (e : CountedCore). HasMade h e) (sym s.0) has);
}

request_one : GrowsLegal → Grows → (h : List Entry) (d : CountedCore) (client : ℕ) (a : Request) (after : CountedCore) (result : CallResult) → HasMade h d → Executes d client a after result → MakesOne h after
request_one legal grows h d client (asks_for.Change c) after result has o = change_one legal grows h d client c after result has o.1
request_one legal grows h d client (asks_for.Register kind name) after result has o = change_one legal grows h d client _ after result has o
request_one legal grows h d client (asks_for.Infos target) after result has o = gives_none h d after _ result has o
request_one legal grows h d client (asks_for.State id) after result has o = gives_none h d after _ result has o

reading_one : GrowsLegal → Grows → (h : List Entry) (d : CountedCore) (number : ℕ) (opening : Option Name) (r : Reading (ℕ × Request)) (after : CountedCore) (result : CallResult) → HasMade h d
    → AnswersReading d number opening r after result → MakesOne h after
reading_one legal grows h d number opening (Ok m) after result has a = request_one legal grows h d m.0 m.1 after result has a
reading_one legal grows h d number opening (Err fault) after result has a = gives_none h d after _ result has a

asked_one : GrowsLegal → Grows → (h : List Entry) (d : CountedCore) (number : ℕ) (opening : Option Name) (asked : Option (Reading (ℕ × Request))) (after : CountedCore) (result : CallResult) → HasMade h d
    → AnswersIf d number opening asked after result → MakesOne h after
asked_one legal grows h d number opening None after result has a = gives_none h d after _ result has a
asked_one legal grows h d number opening (Some r) after result has a = reading_one legal grows h d number opening r after result has a

handled_one : GrowsLegal → Grows → (h : List Entry) (d : CountedCore) (number : ℕ) (input : Input) (after : CountedCore) (result : CallResult) → HasMade h d → Handles d number input after result
    → MakesOne h after
unfolding Handles
handled_one legal grows h d number input after result has t = asked_one legal grows h d number input.opening input.asked after result has t

register_one : GrowsLegal → Grows → (h : List Entry) (d : CountedCore) (number : ℕ) (client : message.Reading ℕ) (kind : Kind) (name : Name) (after : CountedCore) (result : CallResult) → HasMade h d
    → RegistersBy client d number kind name after result → MakesOne h after
register_one legal grows h d number (Ok client) kind name after result has t = change_one legal grows h d client _ after result has t
register_one legal grows h d number (Err fault) kind name after result has t = gives_none h d after _ result has t

pub calls : GrowsLegal → Grows → CallsMakeLegalHistories
calls legal grows = record {
  first = λ comms numbers. record {
    legal = tt;
    goes_on = refl;
    machine_is = refl;
    changes = refl;
    made = λ c few. zeros c;
    clients = refl;
  };
  call = λ h k input after has plays. handled_one legal grows h k.counted_core (k.number + 1) input after.counted_core after.call_result has plays.1;
  register = λ h k client kind name after has plays.
      register_one legal grows h k.counted_core (k.number + 1) (below 4 (Some (pos client))) kind name after.counted_core after.call_result has plays.1;
}
