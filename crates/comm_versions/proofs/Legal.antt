-- Beginnings of legal histories, and what follows an end, by the laws of histories.
use Rattle.std.proofs.Common.{◌≡◌, ℕ, true, false, List, [], ◌∷◌, ◌++◌, sym, ◌∙◌, subst, append_assoc, true≢false}
use Rattle.std.proofs.lemmas.List.{append-nil}
use Rattle.comm_core.specs.History.{IsLegal, has_end}
use Rattle.comm_core.specs.declared.entry.Entry.{Entry}

module _ (clients comms : ℕ) where
  -- the next of a legal history
  pub first_legal : ((clients comms : ℕ) (es fs : List Entry) → IsLegal clients comms (es ++ fs) → IsLegal clients comms es)
      → (front : List Entry) (e : Entry) (more : List Entry) → IsLegal clients comms (front ++ e ∷ more) → IsLegal clients comms (front ++ e ∷ [])
  first_legal prefixes front e more p = prefixes clients comms (front ++ e ∷ []) more (subst (λ l. IsLegal clients comms l) (sym (append_assoc front (e ∷ []) more)) p)

  -- nothing follows an end
  pub ended_whole : ((clients comms : ℕ) (es : List Entry) (e : Entry) (fs : List Entry) → IsLegal clients comms (es ++ e ∷ fs) → has_end es ≡ false)
      → (es all : List Entry) → IsLegal clients comms all → has_end es ≡ true → (rest : List Entry) → es ++ rest ≡ all → es ≡ all
  ended_whole last es all legal ended [] is = sym (append-nil es) ∙ is
  ended_whole last es all legal ended (e ∷ rest) is =
      absurd (true≢false (sym ended ∙ last clients comms es e rest (subst (λ l. IsLegal clients comms l) (sym is) legal)))
