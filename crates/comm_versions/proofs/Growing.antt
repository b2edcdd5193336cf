-- One entry more: the history stays legal, and the tables rest after it.
use Rattle.std.proofs.Common.{◌≡◌, ℕ, ◌+◌, ◌<◌, ◌≤◌, Bool, true, false, cond, List, [], ◌∷◌, ◌++◌, length, Option, Some, refl, ap, sym, subst, ◌∙◌, arith, length-append}
use Rattle.std.specs.List.{filter}
use Rattle.std.proofs.lemmas.List.Elements.{filter-append}
use Rattle.comm_messages.specs.declared.outgoing.Outgoing.{Outgoing}
use Rattle.comm_core.specs.Machine.{Machine}
use Rattle.comm_core.specs.Step.{Outcome, Stepped, Allowed, asks, step}
use Rattle.comm_core.specs.History.{Follows, IsLegal, applied, has_end, is_of, mine, next_of, replay}
use Rattle.comm_core.specs.Ready.{CoreValue, Readied, IsReady, machine}
use Rattle.comm_core.specs.declared.call.Call.{Call}
use Rattle.comm_core.specs.declared.entry.Entry.{Entry}
use Rattle.comm_core.specs.declared.entry.Entry.TheVariants.{Change, End}
use Rattle.comm_core.specs.declared.limits.Limits.{Limits}
use Rattle.comm_core.specs.declared.reply.Reply.{Reply}
use Rattle.comm_versions.specs.Asked.{Rests, ready_entry}

-- ---- the entries of a client

length_either_le : (b : Bool) (x : Entry) (ys es : List Entry) → length ys ≤ length es → length (cond b (x ∷ ys) ys) ≤ length (x ∷ es)
length_either_le true x ys es h = omega arith
length_either_le false x ys es h = omega arith

length_filter_le : (p : Entry → Bool) (es : List Entry) → length (filter p es) ≤ length es
length_filter_le p [] = omega arith
length_filter_le p (x ∷ es) =
    let h = length_filter_le p es in
    length_either_le (p x) x (filter p es) es h

pub mine_le : (es : List Entry) (c : ℕ) → length (mine es c) ≤ length es
mine_le es c = length_filter_le (is_of c) es

pub mine-snoc : (es : List Entry) (e : Entry) (c : ℕ) → length (mine (es ++ e ∷ []) c) ≡ length (mine es c) + length (cond (is_of c e) (e ∷ []) [])
mine-snoc es e c = ap length (filter-append (is_of c) es (e ∷ [])) ∙ length-append (mine es c) (cond (is_of c e) (e ∷ []) [])

-- ---- an end

pub has_end-snoc : (es : List Entry) (c n : ℕ) (k : Call) (o : Option Outcome) (r : Reply) (out : List Outgoing) → has_end es ≡ false → has_end (es ++ Change c n k o r out ∷ []) ≡ false
has_end-snoc [] c n k o r out h = refl
has_end-snoc (End ∷ es) c n k o r out h = h
has_end-snoc (Change c1 n1 k1 o1 r1 out1 ∷ es) c n k o r out h = has_end-snoc es c n k o r out h

-- ---- one change more

-- the laws of legal histories, and of replays
abbrev pub Grows : Type 0
Grows = (clients comms : ℕ) (es : List Entry) (e : Entry) → IsLegal clients comms es → Follows clients comms es e → IsLegal clients comms (es ++ e ∷ [])

abbrev pub Replays : Type 0
Replays = (comms : ℕ) (es : List Entry) (e : Entry) → replay comms (es ++ e ∷ []) ≡ applied comms (replay comms es) e

-- what stands ready after a history
module _ (limits : Limits) (h : List Entry) (core begun : CoreValue) (c n : ℕ) (d : Readied) (rests : Rests limits.comms h core)
    (ready : IsReady begun d) (same : machine begun ≡ machine core) (limit_is : begun.limit ≡ core.limit) where
  pub here : machine begun ≡ replay limits.comms h
  here = same ∙ rests.machine_is

  within : begun.limit ≡ limits.comms
  within = limit_is ∙ rests.limit_is

  stepped : (s : Stepped) → step begun.limit (machine begun) d.call d.outcome ≡ Some s → step limits.comms (replay limits.comms h) d.call d.outcome ≡ Some s
  stepped s done =
      subst (λ (m : Machine). step limits.comms m d.call d.outcome ≡ Some s) here
      (subst (λ (l : ℕ). step l (machine begun) d.call d.outcome ≡ Some s) within done)

  allowed_here : Allowed (replay limits.comms h) (asks limits.comms (replay limits.comms h) d.call) d.outcome
  allowed_here =
      subst (λ (m : Machine). Allowed m (asks limits.comms m d.call) d.outcome) here
      (subst (λ (l : ℕ). Allowed (machine begun) (asks l (machine begun) d.call) d.outcome) within ready.allowed)

  -- its entry may follow
  pub legal_more : Grows → IsLegal limits.clients limits.comms h → has_end h ≡ false → c < limits.clients → n ≡ length (mine h c) + 1 → IsLegal limits.clients limits.comms (h ++ ready_entry c n d ∷ [])
  legal_more grows legal going below next =
      let f : Follows limits.clients limits.comms h (ready_entry c n d) = (
        going,
        below,
        next,
        allowed_here,
        (_, stepped _ ready.step_is, refl, refl),
      ) in
      grows limits.clients limits.comms h (ready_entry c n d) legal f

  -- the tables, once it is done
  pub rests_more : (core' : CoreValue) (h' : List Entry) → Replays → step begun.limit (machine begun) d.call d.outcome ≡ Some (record { reply = d.reply; outgoing = d.outgoing; next = machine core' })
      → core'.settled ≡ true → core'.limit ≡ begun.limit → h' ≡ h ++ ready_entry c n d ∷ [] → Rests limits.comms h' core'
  rests_more core' h' replays done settled limit' his =
      let after : applied limits.comms (replay limits.comms h) (ready_entry c n d) ≡ machine core' = ap (next_of (replay limits.comms h)) (stepped _ done) in
      record {
        settled = settled;
        limit_is = limit' ∙ within;
        machine_is = sym after ∙ sym (replays limits.comms h (ready_entry c n d)) ∙ ap (replay limits.comms) (sym his);
      }
