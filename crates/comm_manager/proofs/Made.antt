-- What a change leaves of its client, and what the whole history has of it.
use Rattle.std.proofs.Common.{◌≡◌, ℕ, ◌+◌, ◌≤◌, ◌⊎◌, ⊎_elim, List, [], ◌∷◌, ◌++◌, length, take, ap, sym, subst, ◌∙◌, arith, length-append}
use mathlib.Core.List.{IsPrefix}
use Rattle.std.specs.Prelude.{Result, Ok, Err, IfOk, OnOk, OnErr}
use Rattle.comm_core.specs.History.{IsLegal, mine}
use Rattle.comm_core.specs.declared.call.Call.{Call}
use Rattle.comm_core.specs.declared.entry.Entry.{Entry}
use Rattle.comm_core.specs.declared.limits.Limits.{Limits}
use Rattle.comm_core.specs.declared.reply.Reply.{Reply}
use Rattle.comm_versions.proofs.Fronts.{prefix_whole, prefix_length, prefix_shorter}
use Rattle.comm_versions.proofs.Made.{made_more, mine_prefix, take_whole}
use Rattle.comm_versions.specs.Asked.{IsNext}
use Rattle.comm_versions.specs.ClientView.{ClientView, client_view}
use Rattle.comm_versions.specs.Mine.{IsAnswered, IsSettled}
use Rattle.comm_manager.specs.SeqView.{SeqView, seq_view}

-- a client that had seen no more than the history, and hears of the next front, has seen just that
pub heard : (old new stamp es : List Entry) (e : Entry) → stamp ≡ es ++ e ∷ [] → length old ≤ length es → ((new ≡ old) ⊎ (new ≡ stamp)) → IsPrefix old new → IsPrefix stamp new
    → (new ≡ stamp) × IsPrefix old es
heard old new stamp es e is le one pre post =
    let longer : length stamp ≡ length es + 1 = ap length is ∙ length-append es (e ∷ []) in
    let fit : length stamp ≤ length new = prefix_length stamp new post in
    let same : new ≡ stamp = ⊎_elim (λ (p : new ≡ old). absurd (let l : length new ≡ length old = ap length p in omega arith)) (λ (p : new ≡ stamp). p) one in
    let begins : IsPrefix old stamp = subst (λ (l : List Entry). IsPrefix old l) same pre in
    (same, prefix_shorter old es stamp begins (e ∷ [], sym is) le)

abbrev pub view_of : SeqView → List Entry → ClientView
view_of t seen = client_view t.client t.number seen

-- what a change leaves of its client
pub after_change : {A E : Type 0} (r : Result A E) (reply_of : A → Reply) (stamp_of : A → List Entry) (number_of : A → ℕ) (limits : Limits) (asked : Call) (old : ClientView) (before after : List Entry) (seen : List Entry) (t : SeqView)
    → old.number ≤ length (mine old.seen old.client) → IsLegal limits.clients limits.comms after → length after ≤ limits.history
    → IfOk r (λ a. IsNext before after old.client (old.number + 1) asked (reply_of a))
    → IfOk r (λ a. (stamp_of a ≡ after) × (number_of a ≡ length after)) → IfOk r (λ a. (seen ≡ after) × IsPrefix old.seen before)
    → OnOk r ((t ≡ seq_view old.client (old.number + 1)) × (length (mine before old.client) ≡ old.number))
    → OnErr r ((t ≡ seq_view old.client old.number) × (seen ≡ old.seen) × (after ≡ before))
    → (t.client ≡ old.client) × (t.number ≤ length (mine seen t.client)) × IfOk r (λ a. IsAnswered limits old (view_of t seen) asked (number_of a) (reply_of a) (stamp_of a))
after_change (Ok a) reply_of stamp_of number_of limits asked old before after seen t some legal few next stamp saw number err =
    let whole : view_of t seen ≡ client_view old.client (old.number + 1) (stamp_of a) =
    ap (λ (x : SeqView). view_of x seen) number.0 ∙ ap (λ (l : List Entry). client_view old.client (old.number + 1) l) (saw.0 ∙ sym stamp.0) in
    let more = made_more limits old (view_of t seen) before after (stamp_of a) asked (reply_of a) (number_of a) some saw.1 number.1 next legal few stamp.0 stamp.1 whole in
    (ap (λ (x : SeqView). x.client) number.0, more.3, more.0)
after_change (Err e) reply_of stamp_of number_of limits asked old before after seen t some legal few next stamp saw number err = (
  ap (λ (x : SeqView). x.client) err.0,
  subst (λ (x : SeqView). x.number ≤ length (mine seen x.client)) (sym err.0) (subst (λ (l : List Entry). old.number ≤ length (mine l old.client)) (sym err.1) some),
  tt,
)

-- all that a client made stands in the history that ended
pub all_made : (history : List Entry) (w : ClientView) → IsPrefix w.seen history → w.number ≤ length (mine w.seen w.client) → length (mine history w.client) ≡ w.number → IsSettled history w
all_made history w pre some counted =
    let same : mine w.seen w.client ≡ mine history w.client = prefix_whole (mine w.seen w.client) (mine history w.client) (mine_prefix w.client w.seen history pre) (omega arith) in
    (pre, sym (ap (take w.number) same ∙ take_whole w.number (mine history w.client) (omega arith)))
