-- What is to follow stays legal and ready.
use Rattle.std.proofs.Common.{◌≡◌, ℕ, List, [], ◌∷◌, ◌++◌, refl, ap, sym, subst, append_assoc}
use Rattle.std.proofs.lemmas.List.{append-nil}
use Rattle.comm_core.specs.History.{IsLegal, replay}
use Rattle.comm_core.specs.Row.{rows}
use Rattle.comm_core.specs.Tables.{Opens}
use Rattle.comm_core.specs.declared.entry.Entry.{Entry}
use Rattle.comm_versions.specs.declared.adding.PendingEntry.{PendingEntry}
use Rattle.comm_versions.specs.Pending.{entries_in, entry_in, FollowsFront, FollowInOrder}

pub entries_in-snoc : (steps : List PendingEntry) (s : PendingEntry) → entries_in (steps ++ s ∷ []) ≡ entries_in steps ++ entry_in s ∷ []
entries_in-snoc [] s = refl
entries_in-snoc (x ∷ steps) s = ap (λ es. entry_in x ∷ es) (entries_in-snoc steps s)

pub legal_more : (clients limit : ℕ) (front : List Entry) (steps : List PendingEntry) (s : PendingEntry) → IsLegal clients limit ((front ++ entries_in steps) ++ entry_in s ∷ [])
    → IsLegal clients limit (front ++ entries_in (steps ++ s ∷ []))
legal_more clients limit front steps s h =
    rw entries_in-snoc (subst (λ (es : List Entry). IsLegal clients limit es) (append_assoc front (entries_in steps) (entry_in s ∷ [])) h)

pub ready_more : (limit : ℕ) (front : List Entry) (steps : List PendingEntry) (s : PendingEntry) → FollowInOrder limit front steps → FollowsFront limit (front ++ entries_in steps) s → FollowInOrder limit front (steps ++ s ∷ [])
ready_more limit front [] s h is = (subst (λ (l : List Entry). FollowsFront limit l s) (append-nil front) is, tt)
ready_more limit front (x ∷ steps) s h is = (
  h.0,
  ready_more limit (front ++ entry_in x ∷ []) steps s h.1 (subst (λ (l : List Entry). FollowsFront limit l s) (sym (append_assoc front (entry_in x ∷ []) (entries_in steps))) is),
)

pub next_more : (limit : ℕ) (front : List Entry) (steps : List PendingEntry) (s : PendingEntry) (t : Opens) → t ≡ rows (replay limit ((front ++ entries_in steps) ++ entry_in s ∷ []))
    → t ≡ rows (replay limit (front ++ entries_in (steps ++ s ∷ [])))
next_more limit front steps s t is = rw entries_in-snoc (subst (λ (es : List Entry). t ≡ rows (replay limit es)) (append_assoc front (entries_in steps) (entry_in s ∷ [])) is)
