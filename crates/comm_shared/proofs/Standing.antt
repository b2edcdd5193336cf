-- One change more: the history stays legal, the totals are those of its clients, and the tables rest after it.
use Rattle.std.proofs.Common.{◌≡◌, ◌≢◌, ℕ, ◌+◌, ◌<◌, ◌≤◌, ◌==◌, Bool, true, false, cond, List, [], ◌∷◌, ◌++◌, length, Some, slice_index, slice_set, refl, ap, sym, subst, ◌∙◌, arith, length-append}
use Rattle.std.proofs.lemmas.Bool.Decides.{nat_tests}
use Rattle.std.proofs.lemmas.List.{get_or-set_same, get_or-set_other, length-set}
use Rattle.comm_core.specs.Step.{step}
use Rattle.comm_core.specs.History.{IsLegal, is_of, mine, replay}
use Rattle.comm_core.specs.Ready.{CoreValue, Readied, IsReady, machine}
use Rattle.comm_core.specs.declared.entry.Entry.{Entry}
use Rattle.comm_versions.specs.Asked.{ready_entry}
use Rattle.comm_versions.specs.Known.{Known, known}
use Rattle.comm_versions.proofs.Growing.{Grows, Replays, has_end-snoc, here, legal_more, mine-snoc, mine_le, rests_more}
use Rattle.comm_shared.specs.Between.{AreCounts, Stands}
use Rattle.comm_shared.specs.SharedView.{limits_of, most_changes, seats}

-- ---- the totals

-- the count of one seat, once another seat or this one has made its next change
module _ (totals : List ℕ) (h : List Entry) (c i : ℕ) (d : Readied) (all : length totals ≡ seats) (low : c < seats)
    (at : slice_index totals i ≡ length (mine h i)) where
  abbrev n : ℕ
  n = length (mine h c) + 1

  abbrev e : Entry
  e = ready_entry c n d

  counts_at : (b : Bool) → (c == i) ≡ b → slice_index (slice_set totals c n) i ≡ length (mine (h ++ e ∷ []) i)
  counts_at true is =
      let same : c ≡ i = grind (arith, nat_tests) in
      let one : length (cond (is_of i e) (e ∷ []) []) ≡ 1 = ap (λ b. length (cond b (e ∷ []) [])) is in
      let long = mine-snoc h e i in
      let own : length (mine h c) ≡ length (mine h i) = ap (λ m. length (mine h m)) same in
      let set : slice_index (slice_set totals c n) i ≡ n =
      subst (λ (j : ℕ). slice_index (slice_set totals c n) j ≡ n) same (get_or-set_same totals c n 0 (omega arith)) in
      set ∙ omega arith
  counts_at false is =
      let other : i ≢ c = λ same. absurd (grind (arith, nat_tests)) in
      let none : length (cond (is_of i e) (e ∷ []) []) ≡ 0 = ap (λ b. length (cond b (e ∷ []) [])) is in
      let long = mine-snoc h e i in
      get_or-set_other totals c i n 0 other ∙ omega arith

pub counts_more : (totals : List ℕ) (h : List Entry) (c : ℕ) (d : Readied) → AreCounts totals h → c < seats
    → AreCounts (slice_set totals c (length (mine h c) + 1)) (h ++ ready_entry c (length (mine h c) + 1) d ∷ [])
counts_more totals h c d are low = record {
  all = length-set totals c (length (mine h c) + 1) ∙ are.all;
  each = λ i below. counts_at totals h c i d are.all low (are.each i below) (c == i) refl;
}

-- ---- what stands

-- a count takes one more
pub small : (k : Known) (core : CoreValue) (totals : List ℕ) (c : ℕ) → Stands k core totals → c < seats → slice_index totals c ≤ most_changes
small k core totals c stands low =
    let a = stands.totals_are.each c low in
    let b = mine_le k.entries c in
    let d = stands.few in
    omega arith

-- what stands ready after what stands
module _ (k : Known) (core ready : CoreValue) (totals : List ℕ) (c : ℕ) (d : Readied) (stands : Stands k core totals)
    (low : c < seats) (is : IsReady ready d) (same : machine ready ≡ machine core) (limit_is : ready.limit ≡ core.limit) where
  abbrev pub next : ℕ
  next = length (mine k.entries c) + 1

  -- its entry may follow
  pub may_follow : Grows → IsLegal k.origin.clients k.origin.limit (k.entries ++ ready_entry c next d ∷ [])
  may_follow grows =
      let below : c < k.origin.clients = let e = stands.clients_are in omega arith in
      legal_more (limits_of k.origin) k.entries core ready c next d stands.rests is same limit_is grows stands.legal stands.going below refl

  -- its machine is that after the history
  pub machine_there : machine ready ≡ replay k.origin.limit k.entries
  machine_there = here (limits_of k.origin) k.entries core ready c next d stands.rests is same limit_is

  -- what stands once it is done
  pub stands_after : (k' : Known) (core' : CoreValue) (totals' : List ℕ) → Grows → Replays → length k.entries < most_changes
      → step ready.limit (machine ready) d.call d.outcome ≡ Some (record { reply = d.reply; outgoing = d.outgoing; next = machine core' })
      → core'.settled ≡ true → core'.limit ≡ ready.limit
      → k' ≡ known k.origin (k.entries ++ ready_entry c next d ∷ []) → totals' ≡ slice_set totals c next → Stands k' core' totals'
  stands_after k' core' totals' grows replays room done settled limit' his bis =
      let e = ready_entry c next d in
      let h = k.entries ++ e ∷ [] in
      let long : length h ≡ length k.entries + 1 = length-append k.entries (e ∷ []) in
      let whole : Stands (known k.origin h) core' (slice_set totals c next) = record {
        legal = may_follow grows;
        going = has_end-snoc k.entries c next d.call d.outcome d.reply d.outgoing stands.going;
        clients_are = stands.clients_are;
        rests = rests_more (limits_of k.origin) k.entries core ready c next d stands.rests is same limit_is core' h replays done settled limit' refl;
        totals_are = counts_more totals k.entries c d stands.totals_are low;
        few = omega arith;
      } in
      subst (λ (x : Known × List ℕ). Stands x.0 core' x.1) (λ i. (sym his i, sym bis i)) whole
