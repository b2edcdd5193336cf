-- One entry more: the totals are those of the history's clients, and what the lock keeps is kept.
use Rattle.std.proofs.Common.{◌≡◌, ℕ, zero, suc, ◌+◌, ◌<◌, ◌≤◌, true, false, List, [], ◌∷◌, ◌++◌, length, Option, Some, slice_index, slice_set, refl, ap, sym, subst, ◌∙◌, arith, length-append}
use Rattle.std.proofs.lemmas.List.{append-nil}
use Rattle.std.proofs.lemmas.List.Elements.{filter-append}
use Rattle.comm_messages.specs.declared.outgoing.Outgoing.{Outgoing}
use Rattle.comm_core.specs.Step.{Outcome, step}
use Rattle.comm_core.specs.History.{IsLegal, has_end, is_of, mine, replay}
use Rattle.comm_core.specs.Ready.{CoreValue, Readied, IsReady, machine}
use Rattle.comm_core.specs.declared.call.Call.{Call}
use Rattle.comm_core.specs.declared.entry.Entry.{Entry}
use Rattle.comm_core.specs.declared.entry.Entry.TheVariants.{Change, End}
use Rattle.comm_core.specs.declared.limits.Limits.{Limits}
use Rattle.comm_core.specs.declared.reply.Reply.{Reply}
use Rattle.comm_versions.specs.Asked.{Rests, ready_entry}
use Rattle.comm_versions.specs.Known.{WriterValue}
use Rattle.comm_versions.proofs.Growing.{Grows, Replays, has_end-snoc, here, legal_more, mine-snoc, mine_le, rests_more}
use Rattle.comm_manager.specs.UnderLock.{LockInvariant, counts}
use Rattle.comm_manager.specs.SeqView.{SeqView}

-- ---- the totals

pub known : (es : List Entry) (c n : ℕ) → c < 4 → slice_index (counts es) c ≡ n → length (mine es c) ≡ n
known es zero n low at = at
known es (suc zero) n low at = at
known es (suc (suc zero)) n low at = at
known es (suc (suc (suc zero))) n low at = at
known es (suc (suc (suc (suc c)))) n low at = absurd (omega arith)

counts_more : (es : List Entry) (c n : ℕ) (k : Call) (o : Option Outcome) (r : Reply) (out : List Outgoing) → c < 4 → length (mine es c) ≡ n
    → slice_set (counts es) c (n + 1) ≡ counts (es ++ Change c (n + 1) k o r out ∷ [])
counts_more es zero n k o r out low at =
    let e = Change 0 (n + 1) k o r out in
    let a : n + 1 ≡ length (mine (es ++ e ∷ []) 0) = omega (arith, mine-snoc es e 0) in
    let b : length (mine es 1) ≡ length (mine (es ++ e ∷ []) 1) = omega (arith, mine-snoc es e 1) in
    let d : length (mine es 2) ≡ length (mine (es ++ e ∷ []) 2) = omega (arith, mine-snoc es e 2) in
    let f : length (mine es 3) ≡ length (mine (es ++ e ∷ []) 3) = omega (arith, mine-snoc es e 3) in
    cc
counts_more es (suc zero) n k o r out low at =
    let e = Change 1 (n + 1) k o r out in
    let a : length (mine es 0) ≡ length (mine (es ++ e ∷ []) 0) = omega (arith, mine-snoc es e 0) in
    let b : n + 1 ≡ length (mine (es ++ e ∷ []) 1) = omega (arith, mine-snoc es e 1) in
    let d : length (mine es 2) ≡ length (mine (es ++ e ∷ []) 2) = omega (arith, mine-snoc es e 2) in
    let f : length (mine es 3) ≡ length (mine (es ++ e ∷ []) 3) = omega (arith, mine-snoc es e 3) in
    cc
counts_more es (suc (suc zero)) n k o r out low at =
    let e = Change 2 (n + 1) k o r out in
    let a : length (mine es 0) ≡ length (mine (es ++ e ∷ []) 0) = omega (arith, mine-snoc es e 0) in
    let b : length (mine es 1) ≡ length (mine (es ++ e ∷ []) 1) = omega (arith, mine-snoc es e 1) in
    let d : n + 1 ≡ length (mine (es ++ e ∷ []) 2) = omega (arith, mine-snoc es e 2) in
    let f : length (mine es 3) ≡ length (mine (es ++ e ∷ []) 3) = omega (arith, mine-snoc es e 3) in
    cc
counts_more es (suc (suc (suc zero))) n k o r out low at =
    let e = Change 3 (n + 1) k o r out in
    let a : length (mine es 0) ≡ length (mine (es ++ e ∷ []) 0) = omega (arith, mine-snoc es e 0) in
    let b : length (mine es 1) ≡ length (mine (es ++ e ∷ []) 1) = omega (arith, mine-snoc es e 1) in
    let d : length (mine es 2) ≡ length (mine (es ++ e ∷ []) 2) = omega (arith, mine-snoc es e 2) in
    let f : n + 1 ≡ length (mine (es ++ e ∷ []) 3) = omega (arith, mine-snoc es e 3) in
    cc
counts_more es (suc (suc (suc (suc c)))) n k o r out low at = absurd (omega arith)

-- ---- what is kept of a client

pub count_is : (limits : Limits) (h : List Entry) (core : CoreValue) (writer : WriterValue) (totals : List ℕ) (c n : ℕ) → LockInvariant limits h core writer totals → c < 4 → slice_index totals c ≡ n → length (mine h c) ≡ n
count_is limits h core writer totals c n kept low at = known h c n low (subst (λ (l : List ℕ). slice_index l c ≡ n) kept.totals_are at)

pub small : (limits : Limits) (h : List Entry) (core : CoreValue) (writer : WriterValue) (totals : List ℕ) (c n : ℕ) → LockInvariant limits h core writer totals → c < 4 → slice_index totals c ≡ n → n ≤ 4294967295
small limits h core writer totals c n kept low at =
    let a = count_is limits h core writer totals c n kept low at in
    let b = mine_le h c in
    let d = kept.few in
    let e = kept.allowed.5 in
    omega arith

-- ---- one change more

kept_more : (limits : Limits) (h h' : List Entry) (core core' : CoreValue) (writer writer' : WriterValue) (totals totals' : List ℕ) (c n : ℕ) (d : Readied)
    → LockInvariant limits h core writer totals → c < 4 → slice_index totals c ≡ n → IsLegal limits.clients limits.comms (h ++ ready_entry c (n + 1) d ∷ []) → Rests limits.comms h' core' → length h < limits.history
    → h' ≡ h ++ ready_entry c (n + 1) d ∷ [] → writer'.front ≡ h' → writer'.pending ≡ [] → totals' ≡ slice_set totals c (n + 1) → LockInvariant limits h' core' writer' totals'
kept_more limits h h' core core' writer writer' totals totals' c n d kept low at legal rests room his front pending bis =
    let e = ready_entry c (n + 1) d in
    let long : length h' ≡ length h + 1 = ap length his ∙ length-append h (e ∷ []) in
    let number = count_is limits h core writer totals c n kept low at in
    record {
      legal = subst (λ (l : List Entry). IsLegal limits.clients limits.comms l) (sym his) legal;
      going = subst (λ (l : List Entry). has_end l ≡ false) (sym his) (has_end-snoc h c (n + 1) d.call d.outcome d.reply d.outgoing kept.going);
      front_is = front;
      pending_is = pending;
      rests = rests;
      totals_are = bis ∙ ap (λ (l : List ℕ). slice_set l c (n + 1)) kept.totals_are ∙ counts_more h c n d.call d.outcome d.reply d.outgoing low number ∙ ap counts (sym his);
      few = omega arith;
      allowed = kept.allowed;
    }

-- what is kept stays where a change is admitted
pub admitted : (limits : Limits) (h h1 : List Entry) (core : CoreValue) (w w1 : WriterValue) (totals b1 : List ℕ) (t t1 : SeqView) → h1 ≡ h → w1 ≡ w → (b1 ≡ totals) × (t1 ≡ t) → LockInvariant limits h core w totals
    → (t.client < 4) × (slice_index totals t.client ≡ t.number) → t.client < limits.clients
    → LockInvariant limits h1 core w1 b1 × (t1.client < 4) × (slice_index b1 t1.client ≡ t1.number) × (t1.client < limits.clients)
admitted limits h h1 core w w1 totals b1 t t1 his wis same kept known below =
    subst (λ (x : List Entry × WriterValue × List ℕ × SeqView). LockInvariant limits x.0 core x.1 x.2 × (x.3.client < 4) × (slice_index x.2 x.3.client ≡ x.3.number) × (x.3.client < limits.clients))
    (λ i. (sym his i, sym wis i, sym same.0 i, sym same.1 i)) (kept, known.0, known.1, below)

-- what stands ready after what is kept
module _ (limits : Limits) (h : List Entry) (core ready : CoreValue) (w : WriterValue) (totals : List ℕ) (c n : ℕ) (d : Readied)
    (kept : LockInvariant limits h core w totals) (low : c < 4) (at : slice_index totals c ≡ n)
    (stands : IsReady ready d) (same : machine ready ≡ machine core) (limit_is : ready.limit ≡ core.limit) where
  whole : w.front ++ w.pending ≡ h
  whole = ap (λ (l : List Entry). w.front ++ l) kept.pending_is ∙ (append-nil w.front ∙ kept.front_is)

  legal_after : Grows → c < limits.clients → IsLegal limits.clients limits.comms (h ++ ready_entry c (n + 1) d ∷ [])
  legal_after grows below =
      let counted = count_is limits h core w totals c n kept low at in
      legal_more limits h core ready c (n + 1) d kept.rests stands same limit_is grows kept.legal kept.going below (ap (λ (k : ℕ). k + 1) (sym counted))

  -- its entry may follow what is published
  pub may_follow : Grows → c < limits.clients → IsLegal limits.clients limits.comms ((w.front ++ w.pending) ++ ready_entry c (n + 1) d ∷ [])
  may_follow grows below = subst (λ (l : List Entry). IsLegal limits.clients limits.comms (l ++ ready_entry c (n + 1) d ∷ [])) (sym whole) (legal_after grows below)

  -- its machine is that after what is published
  pub machine_there : machine ready ≡ replay limits.comms (w.front ++ w.pending)
  machine_there = here limits h core ready c (n + 1) d kept.rests stands same limit_is ∙ ap (replay limits.comms) (sym whole)

  -- what is kept once it is done
  pub kept_after : (h' : List Entry) (core' : CoreValue) (w' : WriterValue) (totals' : List ℕ) → Grows → Replays → c < limits.clients → length h < limits.history
      → step ready.limit (machine ready) d.call d.outcome ≡ Some (record { reply = d.reply; outgoing = d.outgoing; next = machine core' }) → core'.settled ≡ true → core'.limit ≡ ready.limit
      → h' ≡ h ++ ready_entry c (n + 1) d ∷ [] → w'.front ≡ h' → w'.pending ≡ [] → totals' ≡ slice_set totals c (n + 1) → LockInvariant limits h' core' w' totals'
  kept_after h' core' w' totals' grows replays below room done settled limit' his front pending bis =
      kept_more limits h h' core core' w w' totals totals' c n d kept low at (legal_after grows below)
      (rests_more limits h core ready c (n + 1) d kept.rests stands same limit_is core' h' replays done settled limit' his) room his front pending bis

-- ---- an end more

pub has_end-end : (es : List Entry) → has_end (es ++ End ∷ []) ≡ true
has_end-end [] = refl
has_end-end (End ∷ es) = refl
has_end-end (Change c n k o r out ∷ es) = has_end-end es

pub mine-end : (es : List Entry) (c : ℕ) → mine (es ++ End ∷ []) c ≡ mine es c
mine-end es c = filter-append (is_of c) es (End ∷ []) ∙ append-nil (mine es c)

pub counts-end : (es : List Entry) → counts (es ++ End ∷ []) ≡ counts es
counts-end es =
    let a = ap length (mine-end es 0) in
    let b = ap length (mine-end es 1) in
    let d = ap length (mine-end es 2) in
    let f = ap length (mine-end es 3) in
    cc
