-- A legal history, entry by entry from the machine that stands before it.
use Rattle.std.proofs.Common.{◌≡◌, ℕ, List, [], ◌∷◌, ◌++◌, Option, Some, refl, ap, sym, ◌∙◌, subst}
use Rattle.comm_messages.specs.declared.outgoing.Outgoing.{Outgoing}
use Rattle.comm_core.specs.Machine.{Machine, empty, AreDistinct}
use Rattle.comm_core.specs.Step.{Stepped, Allowed, asks, step}
use Rattle.comm_core.specs.History.{next_of, applied, replay_from, replay, Follows, IsLegalAfter, IsLegal}
use Rattle.comm_core.specs.declared.entry.Entry.{Entry}
use Rattle.comm_core.specs.declared.entry.Entry.TheVariants.{Change, End}
use Rattle.comm_core.specs.declared.reply.Reply.{Reply}
use Rattle.comm_core.proofs.Changes.{distinct-changed}
use Rattle.comm_core.proofs.Stepping.{step_does}

-- the entry may come at this machine
abbrev pub Steps : ℕ → Machine → Entry → Type 0
Steps limit m (Change client number call outcome reply outgoing) =
    Allowed m (asks limit m call) outcome
    × (step limit m call outcome ≡ Some (record { reply = reply; outgoing = outgoing; next = next_of m (step limit m call outcome) }))
Steps limit m End = Unit {0}

abbrev pub Runs : ℕ → Machine → List Entry → Type 0
Runs limit m [] = Unit {0}
Runs limit m (e ∷ es) = Steps limit m e × Runs limit (applied limit m e) es

stepped_so : (m : Machine) (o : Option Stepped) (r : Reply) (out : List Outgoing) (s : Stepped) → o ≡ Some s → s.reply ≡ r → s.outgoing ≡ out
    → o ≡ Some (record { reply = r; outgoing = out; next = next_of m o })
stepped_so m o r out s is er eo =
    let next : s.next ≡ next_of m o = sym (ap (next_of m) is) in
    is ∙ ap (λ x. Some (record { reply = x; outgoing = s.outgoing; next = s.next })) er ∙ ap (λ x. Some (record { reply = r; outgoing = x; next = s.next })) eo
    ∙ ap (λ x. Some (record { reply = r; outgoing = out; next = x })) next

module _ (limit : ℕ) where
  pub replay-append : (m : Machine) (es fs : List Entry) → replay_from limit m (es ++ fs) ≡ replay_from limit (replay_from limit m es) fs
  replay-append m [] fs = refl
  replay-append m (e ∷ es) fs = replay-append (applied limit m e) es fs

  follows_steps : (clients : ℕ) (before : List Entry) (e : Entry) → Follows clients limit before e → Steps limit (replay limit before) e
  follows_steps clients before End f = tt
  follows_steps clients before (Change client number call outcome reply outgoing) f = (f.3, stepped_so (replay limit before) _ reply outgoing f.4.0 f.4.1 f.4.2 f.4.3)

  runs_legal : (clients : ℕ) (before es : List Entry) → IsLegalAfter clients limit before es → Runs limit (replay limit before) es
  runs_legal clients before [] p = tt
  runs_legal clients before (e ∷ es) p =
      (follows_steps clients before e p.0, subst (λ m. Runs limit m es) (replay-append empty before (e ∷ [])) (runs_legal clients (before ++ e ∷ []) es p.1))

  pub legal_runs : (clients : ℕ) (h : List Entry) → IsLegal clients limit h → Runs limit empty h
  legal_runs clients h p = runs_legal clients [] h p

  pub runs_after : (m : Machine) (es fs : List Entry) → Runs limit m (es ++ fs) → Runs limit (replay_from limit m es) fs
  runs_after m [] fs r = r
  runs_after m (e ∷ es) fs r = runs_after (applied limit m e) es fs r.1

  pub runs_before : (m : Machine) (es fs : List Entry) → Runs limit m (es ++ fs) → Runs limit m es
  runs_before m [] fs r = tt
  runs_before m (e ∷ es) fs r = (r.0, runs_before (applied limit m e) es fs r.1)

  distinct_step : (m : Machine) (e : Entry) → Steps limit m e → AreDistinct m.comms → AreDistinct (applied limit m e).comms
  distinct_step m End s d = tt
  distinct_step m (Change client number call outcome reply outgoing) s d =
      let does = step_does limit m call outcome _ s.0 s.1 in
      subst (λ c. AreDistinct c) (sym does.comms) (distinct-changed does.change m.comms does.fits d)

  pub distinct_runs : (m : Machine) (es : List Entry) → Runs limit m es → AreDistinct m.comms → AreDistinct (replay_from limit m es).comms
  distinct_runs m [] r d = d
  distinct_runs m (e ∷ es) r d = distinct_runs (applied limit m e) es r.1 (distinct_step m e r.0 d)
