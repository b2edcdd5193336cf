-- The comms that are there after a legal history are those that were opened and not ended since.
use Rattle.std.proofs.Common.{◌≡◌, ◌↔◌, ℕ, Bool, true, false, List, [], ◌∷◌, Option, None, Some, refl, ap, sym, ◌∙◌, subst, true≢false}
use mathlib.Core.Logic.{◌⊎◌, inl, inr}
use Rattle.std.specs.Prelude.{◌||◌}
use Rattle.std.specs.List.{list_any, Contains, filter_map, last_or, cons_option}
use Rattle.comm_value.specs.Tree.{Members}
use Rattle.comm_core.specs.Machine.{Name, Machine, empty, at, AreDistinct}
use Rattle.comm_core.specs.History.{applied, replay_from, replay, IsLegal}
use Rattle.comm_core.specs.declared.entry.Entry.{Entry}
use Rattle.comm_core.specs.declared.entry.Entry.TheVariants.{Change, End}
use Rattle.comm_core.specs.Reads.{infos}
use Rattle.comm_core.specs.Runs.{HasOpened, has_ended, IsOpenSince, IsLeftOpen, AsksFor, given_by, last_given}
use Rattle.comm_core.specs.declared.comm.Comm.{Comm}
use Rattle.comm_core.proofs.Gone.{none≢some}
use Rattle.comm_core.proofs.Stepping.{step_does}
use Rattle.comm_core.proofs.Changes.{newer, kept, came, opened}
use Rattle.comm_core.proofs.Running.{Steps, Runs, replay-append, legal_runs, runs_after, distinct_runs}
use Rattle.comm_core.proofs.Listing.{listed_there, there_listed}

pub neither : (a b : Bool) → a || b ≡ false → (a ≡ false) × (b ≡ false)
neither true b h = absurd (true≢false h)
neither false b h = (refl, h)

pub both_false : (a b : Bool) → a ≡ false → b ≡ false → a || b ≡ false
both_false a b h k = rw (h, k) refl

-- the state that was given last, or else s
abbrev pub state_after : Name → Option Members → List Entry → Option Members
state_after id s es = last_or s (filter_map (given_by id) es)

more_given : (o s : Option Members) (l : List Members) → last_or (newer o s) l ≡ last_or s (cons_option o l)
more_given None s l = refl
more_given (Some v) s l = refl

module _ (limit : ℕ) where
  -- ---- what one entry does

  pub entry_keeps : (m : Machine) (e : Entry) (id : Name) (x : Comm) → Steps limit m e → at m.comms id ≡ Some x → has_ended id x.target e ≡ false
      → at (applied limit m e).comms id ≡ Some (record { target = x.target; state = newer (given_by id e) x.state })
  entry_keeps m End id x s h going = absurd (true≢false going)
  entry_keeps m (Change client number call outcome reply outgoing) id x s h going =
      let does = step_does limit m call outcome _ s.0 s.1 in
      ap (λ c. at c id) does.comms ∙ kept does.change m.comms id x h does.fits (sym (does.ends id x.target) ∙ going)
      ∙ ap (λ o. Some (record { target = x.target; state = newer o x.state })) (sym (does.gives id))

  pub entry_opens : (m : Machine) (e : Entry) (id target : Name) → Steps limit m e → HasOpened e id target
      → at (applied limit m e).comms id ≡ Some (record { target = target; state = given_by id e })
  entry_opens m End id target s h = absurd h
  entry_opens m (Change client number call outcome reply outgoing) id target s h =
      let does = step_does limit m call outcome _ s.0 s.1 in
      ap (λ c. at c id) does.comms ∙ opened does.change m.comms id target does.fits (sym does.opens ∙ h)
      ∙ ap (λ o. Some (record { target = target; state = o })) (sym (does.gives id))

  abbrev StoodBefore : Machine → Entry → Name → Comm → Type 0
  StoodBefore m e id y = (x : Comm) × (at m.comms id ≡ Some x) × (x.target ≡ y.target) × (has_ended id y.target e ≡ false)

  entry_came : (m : Machine) (e : Entry) (id : Name) (y : Comm) → Steps limit m e → AreDistinct m.comms → at (applied limit m e).comms id ≡ Some y
      → HasOpened e id y.target ⊎ StoodBefore m e id y
  entry_came m End id y s d h = absurd (none≢some y h)
  entry_came m (Change client number call outcome reply outgoing) id y s d h =
      let does = step_does limit m call outcome _ s.0 s.1 in
      elim (came does.change m.comms id y d does.fits (sym (ap (λ c. at c id) does.comms) ∙ h)) [
        | inl opens ↦ inl (does.opens ∙ opens)
        | inr was ↦ inr (was.0, was.1, was.2, does.ends id y.target ∙ was.3)
      ]

  -- ---- what a run does

  pub stays_there : (m : Machine) (es : List Entry) (id : Name) (x : Comm) → Runs limit m es → at m.comms id ≡ Some x
      → list_any (has_ended id x.target) es ≡ false
      → at (replay_from limit m es).comms id ≡ Some (record { target = x.target; state = state_after id x.state es })
  stays_there m [] id x r h going = h
  stays_there m (e ∷ es) id x r h going =
      let parts = neither (has_ended id x.target e) (list_any (has_ended id x.target) es) going in
      stays_there (applied limit m e) es id _ r.1 (entry_keeps m e id x r.0 h parts.0) parts.1
      ∙ ap (λ o. Some (record { target = x.target; state = o })) (more_given (given_by id e) x.state (filter_map (given_by id) es))

  -- it was there before the run and nothing ended it, or the run left it open
  abbrev CameFrom : Machine → List Entry → Name → Name → Type 0
  CameFrom m es id target = ((x : Comm) × (at m.comms id ≡ Some x) × (x.target ≡ target) × (list_any (has_ended id target) es ≡ false)) ⊎ IsLeftOpen es id target

  earlier : (e : Entry) (es : List Entry) (id target : Name) → IsLeftOpen es id target → IsLeftOpen (e ∷ es) id target
  earlier e es id target h =
      (e ∷ h.0, h.1, h.2, record { parts = ap (λ l. e ∷ l) h.3.parts; opened = h.3.opened; lasts = h.3.lasts })

  came_from : (m : Machine) (es : List Entry) (id : Name) (y : Comm) → Runs limit m es → AreDistinct m.comms → at (replay_from limit m es).comms id ≡ Some y
      → CameFrom m es id y.target
  came_from m [] id y r d h = inl (y, h, refl, refl)
  came_from m (e ∷ es) id y r d h =
      elim (came_from (applied limit m e) es id y r.1 (distinct_runs limit m (e ∷ []) (r.0, tt) d) h) [
        | inr left ↦ inr (earlier e es id y.target left)
        | inl stood ↦
            elim (entry_came m e id stood.0 r.0 d stood.1) [
              | inl opens ↦ inr ([], e, es, record { parts = refl; opened = subst (λ t. HasOpened e id t) stood.2 opens; lasts = stood.3 })
              | inr was ↦ inl (was.0, was.1, was.2 ∙ stood.2, both_false _ _ (subst (λ t. has_ended id t e ≡ false) stood.2 was.3) stood.3)
            ]
      ]

  -- ---- a legal history

  pub open_since : (clients : ℕ) (h before : List Entry) (opener : Entry) (after : List Entry) (id target : Name) → IsLegal clients limit h
      → IsOpenSince h before opener after id target
      → at (replay limit h).comms id ≡ Some (record { target = target; state = last_given id (opener ∷ after) })
  open_since clients h before opener after id target p since =
      let m = replay limit before in
      let r = runs_after limit empty before (opener ∷ after) (subst (λ l. Runs limit empty l) since.parts (legal_runs limit clients h p)) in
      ap (λ l. at (replay limit l).comms id) since.parts ∙ ap (λ (z : Machine). at z.comms id) (replay-append limit empty before (opener ∷ after))
      ∙ stays_there (applied limit m opener) after id (record { target = target; state = given_by id opener }) r.1 (entry_opens m opener id target r.0 since.opened) since.lasts
      ∙ ap (λ o. Some (record { target = target; state = o })) (first_given (given_by id opener) (filter_map (given_by id) after))
    where
      first_given : (o : Option Members) (l : List Members) → last_or o l ≡ last_or None (cons_option o l)
      first_given None l = refl
      first_given (Some v) l = refl

  pub left_open : (clients : ℕ) (h : List Entry) (id : Name) (y : Comm) → IsLegal clients limit h → at (replay limit h).comms id ≡ Some y
      → IsLeftOpen h id y.target
  left_open clients h id y p there =
      elim (came_from empty h id y (legal_runs limit clients h p) tt there) [
        | inl stood ↦ absurd (none≢some stood.0 stood.1)
        | inr left ↦ left
      ]

  distinct_legal : (clients : ℕ) (h : List Entry) → IsLegal clients limit h → AreDistinct (replay limit h).comms
  distinct_legal clients h p = distinct_runs limit empty h (legal_runs limit clients h p) tt

  listed : (clients : ℕ) (h : List Entry) → IsLegal clients limit h → (asked : Option Name) (id target : Name)
      → Contains (infos (replay limit h) asked) (record { id = id; target = target }) → AsksFor asked target × IsLeftOpen h id target
  listed clients h p asked id target has =
      let there = listed_there (replay limit h) asked id target (distinct_legal clients h p) has in
      (there.0, subst (λ t. IsLeftOpen h id t) there.1.2 (left_open clients h id there.1.0 p there.1.1))

  lists : (clients : ℕ) (h : List Entry) → IsLegal clients limit h → (asked : Option Name) (id target : Name) → AsksFor asked target × IsLeftOpen h id target
      → Contains (infos (replay limit h) asked) (record { id = id; target = target })
  lists clients h p asked id target left =
      let since = left.1.3 in
      there_listed (replay limit h) asked id target (distinct_legal clients h p) (left.0, (_, open_since clients h left.1.0 left.1.1 left.1.2 id target p since, refl))

pub listed_left_open : (clients limit : ℕ) (h : List Entry) → IsLegal clients limit h → (asked : Option Name) (id target : Name)
    → Contains (infos (replay limit h) asked) (record { id = id; target = target }) ↔ (AsksFor asked target × IsLeftOpen h id target)
listed_left_open clients limit h p asked id target = (listed limit clients h p asked id target, lists limit clients h p asked id target)
