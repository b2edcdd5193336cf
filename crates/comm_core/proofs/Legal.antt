-- Legal histories, as they grow.
use Rattle.std.proofs.Common.{◌≡◌, ℕ, true, false, List, [], ◌∷◌, ◌++◌, refl, ap, sym, ◌∙◌, subst, true≢false, append_assoc}
use Rattle.comm_core.specs.Machine.{empty}
use Rattle.comm_core.specs.History.{applied, replay, has_end, Follows, IsLegalAfter, IsLegal}
use Rattle.comm_core.specs.declared.entry.Entry.{Entry}
use Rattle.comm_core.specs.declared.entry.Entry.TheVariants.{Change, End}
use Rattle.comm_core.proofs.Running.{replay-append}

append-nil : {X : Type 0} (xs : List X) → xs ++ [] ≡ xs
append-nil [] = refl
append-nil (x ∷ xs) = ap (λ l. x ∷ l) (append-nil xs)

pub replay_more : (comms : ℕ) (h : List Entry) (e : Entry) → replay comms (h ++ e ∷ []) ≡ applied comms (replay comms h) e
replay_more comms h e = replay-append comms empty h (e ∷ [])

module _ (clients comms : ℕ) where
  -- ---- prefixes, and one entry more

  legal_prefix : (h es fs : List Entry) → IsLegalAfter clients comms h (es ++ fs) → IsLegalAfter clients comms h es
  legal_prefix h [] fs p = tt
  legal_prefix h (e ∷ es) fs p = (p.0, legal_prefix (h ++ e ∷ []) es fs p.1)

  legal_more : (h es : List Entry) (e : Entry) → IsLegalAfter clients comms h es → Follows clients comms (h ++ es) e → IsLegalAfter clients comms h (es ++ e ∷ [])
  legal_more h [] e p f = (subst (λ l. Follows clients comms l e) (append-nil h) f, tt)
  legal_more h (x ∷ es) e p f = (p.0, legal_more (h ++ x ∷ []) es e p.1 (subst (λ l. Follows clients comms l e) (sym (append_assoc h (x ∷ []) es)) f))

  pub prefix_legal : (es fs : List Entry) → IsLegal clients comms (es ++ fs) → IsLegal clients comms es
  prefix_legal es fs p = legal_prefix [] es fs p

  pub more_legal : (es : List Entry) (e : Entry) → IsLegal clients comms es → Follows clients comms es e → IsLegal clients comms (es ++ e ∷ [])
  more_legal es e p f = legal_more [] es e p f

  -- ---- the end comes last

  goes_on : (h : List Entry) (e : Entry) → Follows clients comms h e → has_end h ≡ false
  goes_on h End f = f
  goes_on h (Change client number call outcome reply outgoing) f = f.0

  pub nothing_after : (h : List Entry) (e : Entry) → has_end h ≡ true → Follows clients comms h e → ⊥
  nothing_after h e ends f = true≢false (sym ends ∙ goes_on h e f)

  no_end_before : (h es : List Entry) (e : Entry) (fs : List Entry) → IsLegalAfter clients comms h (es ++ e ∷ fs) → has_end (h ++ es) ≡ false
  no_end_before h [] e fs p = ap has_end (append-nil h) ∙ goes_on h e p.0
  no_end_before h (x ∷ es) e fs p = ap has_end (sym (append_assoc h (x ∷ []) es)) ∙ no_end_before (h ++ x ∷ []) es e fs p.1

  pub no_end_yet : (es : List Entry) (e : Entry) (fs : List Entry) → IsLegal clients comms (es ++ e ∷ fs) → has_end es ≡ false
  no_end_yet es e fs p = no_end_before [] es e fs p
