-- Which targets a run has, and of which kinds.
use Rattle.std.proofs.Common.{◌≡◌, ℕ, true, false, not, List, [], ◌∷◌, ◌++◌, Option, None, Some, refl, ap, sym, ◌∙◌, subst, true≢false}
use Rattle.std.specs.Str.{bytes_eq}
use Rattle.std.specs.List.{list_any}
use Rattle.comm_targets.specs.Meaning.{notes_after}
use Rattle.comm_targets.specs.declared.kind.Kind.{Kind}
use Rattle.comm_targets.specs.declared.event.Event.{Event}
use Rattle.comm_targets.specs.declared.event.Event.TheVariants as event
use Rattle.comm_core.specs.Machine.{Name, Registered, Machine, empty, at, has, with_at}
use Rattle.comm_core.specs.Step.{Outcome, judged, noted, stated, is_full, holds_widget, comm_id}
use Rattle.comm_core.specs.History.{applied, replay_from, replay}
use Rattle.comm_core.specs.declared.entry.Entry.{Entry}
use Rattle.comm_core.specs.declared.entry.Entry.TheVariants.{Change, End}
use Rattle.comm_core.specs.Tables.{Opens}
use Rattle.comm_core.specs.Runs.{has_ended, ending}
use Rattle.comm_core.specs.Updates.{registering, unregistering, has_unregistered, HasRegistered, IsRegistered}
use Rattle.comm_core.specs.declared.call.Call.{Call}
use Rattle.comm_core.specs.declared.call.Call.TheVariants.{Register, Open, Msg, Close, Unregister, Launch, Push, Send, HangUp}
use Rattle.comm_core.specs.declared.reply.Reply.{Reply}
use Rattle.comm_core.specs.declared.reply.Reply.TheVariants as reply
use Rattle.comm_core.proofs.Keys.{same_text, at-with_at, at-with_at-other}
use Rattle.comm_core.proofs.Gone.{at-longer, at-without-other}
use Rattle.comm_core.proofs.Agreeing.{differs, some-at, at-newest}
use Rattle.comm_core.proofs.Staging.{none_of}
use Rattle.comm_core.proofs.LeftOpen.{neither}
use Rattle.comm_core.proofs.Running.{Steps, Runs, replay-append, runs_after}
use Rattle.comm_core.proofs.Stepping.{Comes, comes, comes_if, comes_of, comes_told, none_stepped}

-- the target is there, and of this kind
abbrev pub HasKind : Machine → Name → Kind → Type 0
HasKind m name k = (r : Registered) × (at m.targets name ≡ Some r) × (r.kind ≡ k)

same_target : (x y : Registered) → Some x ≡ Some y → x ≡ y
same_target x y e = cc

-- What a step does to the kinds: it takes out and registers what the call with its reply says, and leaves the others.
pub record Leaves (call : Call) (m : Machine) (o : Option Outcome) (r : Reply) (n : Machine) : Type 0 where
  pub keeps : (name : Name) (k : Kind) → HasKind m name k → unregistering call r name ≡ false → HasKind n name k
  pub adds : (name : Name) (k : Kind) → registering call r ≡ Some (name, k) → HasKind n name k

none_adds : (name : Name) (k : Kind) {P : Type 0} → ◌≡◌ {A = Option (Name × Kind)} None (Some (name, k)) → P
none_adds name k h = cc

abbrev named : Name → Kind → Option (Name × Kind)
named name k = Some (name, k)

the_name : Option (Name × Kind) → Name → Name
the_name None d = d
the_name (Some p) d = p.0

the_kind : Option (Name × Kind) → Kind → Kind
the_kind None d = d
the_kind (Some p) d = p.1

same_name : (a b : Name) (k l : Kind) → named a k ≡ named b l → a ≡ b
unfolding the_name
same_name a b k l e = ap (λ o. the_name o a) e

same_kind : (a b : Name) (k l : Kind) → named a k ≡ named b l → k ≡ l
unfolding the_kind
same_kind a b k l e = ap (λ o. the_kind o k) e

noted_keeps : (m : Machine) (target : Name) (e : Event) (t : Option Registered) → at m.targets target ≡ t → (comms : Opens) (name : Name) (k : Kind)
    → HasKind m name k → HasKind (record { targets = noted m.targets target e t; comms = comms }) name k
noted_keeps m target e None is comms name k h = h
noted_keeps m target e (Some r) is comms name k h =
    let w : Registered = record { kind = r.kind; notes = notes_after r.kind r.notes e } in
    (elim (bytes_eq name target) as (λ b. bytes_eq name target ≡ b → HasKind (record { targets = with_at m.targets target w; comms = comms }) name k) [
      | true ↦ λ p.
          let same = same_text name target p in
          let old : h.0 ≡ r = same_target h.0 r (sym h.1 ∙ ap (at m.targets) same ∙ is) in
          (w, ap (at (with_at m.targets target w)) same ∙ at-with_at target m.targets r w is, ap (λ (z : Registered). z.kind) (sym old) ∙ h.2)
      | false ↦ λ p. (h.0, at-with_at-other target m.targets w name p ∙ h.1, h.2)
    ]) refl

judged_leaves : (limit : ℕ) (m : Machine) (call : Call) → Comes (Leaves call m) m (judged limit m call)
judged_leaves limit m (Register name kind notes) =
    comes_if (Leaves (Register name kind notes) m) m (has m.targets name) _ _
    (λ old. let was = some-at (at m.targets name) old in
    record {
      keeps = λ n k h u. (h.0, at-with_at-other name m.targets _ n (differs name n u) ∙ h.1, h.2);
      adds = λ n k h. (record { kind = kind; notes = notes }, ap (at (with_at m.targets name (record { kind = kind; notes = notes }))) (sym (same_name name n kind k h)) ∙ at-with_at name m.targets was.0 _ was.1, same_kind name n kind k h);
    })
    (λ new. record {
      keeps = λ n k h u. (h.0, at-longer m.targets name _ n h.0 h.1, h.2);
      adds = λ n k h. (record { kind = kind; notes = notes }, ap (at (m.targets ++ (name, record { kind = kind; notes = notes }) ∷ [])) (sym (same_name name n kind k h)) ∙ at-newest m.targets name _ (none_of (at m.targets name) new), same_kind name n kind k h);
    })
judged_leaves limit m (Open id target version body) =
    let L = Leaves (Open id target version body) m in
    comes_if L m (has m.comms id) _ _ (λ _. record { keeps = λ n k h u. h; adds = λ n k h. none_adds n k h })
    (λ _. comes_if L m (not (has m.targets target)) _ _ (λ _. record { keeps = λ n k h u. h; adds = λ n k h. none_adds n k h })
    (λ _. comes_if L m (is_full limit m) _ _ (λ _. record { keeps = λ n k h u. h; adds = λ n k h. none_adds n k h })
    (λ _. (
      (λ a g. record { keeps = λ n k h u. h; adds = λ n k h. none_adds n k h }),
      (λ f s e. comes_told L m f _ s (record { keeps = λ n k h u. h; adds = λ n k h. none_adds n k h }) e),
    ))))
judged_leaves limit m (Msg id body) =
    let L = Leaves (Msg id body) m in
    comes_of L m (at m.comms id) _ (record { keeps = λ n k h u. h; adds = λ n k h. none_adds n k h })
    (λ x there. (
      (λ a g. record { keeps = λ n k h u. noted_keeps m x.target (event.Msg id body) (at m.targets x.target) refl (stated m.comms id x.target a.state) n k h; adds = λ n k h. none_adds n k h }),
      (λ f s e. comes_told L m f _ s (record { keeps = λ n k h u. h; adds = λ n k h. none_adds n k h }) e),
    ))
judged_leaves limit m (Close id) =
    comes_of (Leaves (Close id) m) m (at m.comms id) _ (record { keeps = λ n k h u. h; adds = λ n k h. none_adds n k h })
    (λ x there. record { keeps = λ n k h u. h; adds = λ n k h. none_adds n k h })
judged_leaves limit m (Unregister name) =
    comes_if (Leaves (Unregister name) m) m (has m.targets name) _ _
    (λ _. record { keeps = λ n k h u. (h.0, at-without-other m.targets name n (differs name n u) ∙ h.1, h.2); adds = λ n k h. none_adds n k h })
    (λ _. record { keeps = λ n k h u. h; adds = λ n k h. none_adds n k h })
judged_leaves limit m (Launch uuid target state) =
    let L = Leaves (Launch uuid target state) m in
    comes_if L m (has m.comms (comm_id uuid)) _ _ (λ _. record { keeps = λ n k h u. h; adds = λ n k h. none_adds n k h })
    (λ _. comes_if L m (not (has m.targets target)) _ _ (λ _. record { keeps = λ n k h u. h; adds = λ n k h. none_adds n k h })
    (λ _. comes_if L m (not (holds_widget (at m.targets target))) _ _ (λ _. record { keeps = λ n k h u. h; adds = λ n k h. none_adds n k h })
    (λ _. comes_if L m (is_full limit m) _ _ (λ _. record { keeps = λ n k h u. h; adds = λ n k h. none_adds n k h })
    (λ _. ((λ a g. record { keeps = λ n k h u. h; adds = λ n k h. none_adds n k h }), (λ f s e. none_stepped s e))))))
judged_leaves limit m (Push id state) =
    let L = Leaves (Push id state) m in
    comes_of L m (at m.comms id) _ (record { keeps = λ n k h u. h; adds = λ n k h. none_adds n k h })
    (λ x there. comes_if L m (holds_widget (at m.targets x.target)) _ _
    (λ _. ((λ a g. record { keeps = λ n k h u. noted_keeps m x.target (event.Push id state) (at m.targets x.target) refl (stated m.comms id x.target a.state) n k h; adds = λ n k h. none_adds n k h }), (λ f s e. none_stepped s e)))
    (λ _. record { keeps = λ n k h u. h; adds = λ n k h. none_adds n k h }))
judged_leaves limit m (Send id body) =
    comes_of (Leaves (Send id body) m) m (at m.comms id) _ (record { keeps = λ n k h u. h; adds = λ n k h. none_adds n k h })
    (λ x there. record { keeps = λ n k h u. h; adds = λ n k h. none_adds n k h })
judged_leaves limit m (HangUp id) =
    comes_of (Leaves (HangUp id) m) m (at m.comms id) _ (record { keeps = λ n k h u. h; adds = λ n k h. none_adds n k h })
    (λ x there. record { keeps = λ n k h u. h; adds = λ n k h. none_adds n k h })

-- What doesn't end the comms of a target leaves the target.
left_in : (call : Call) (r : Reply) (id target : Name) → ending call r id target ≡ false → unregistering call r target ≡ false
left_in (Unregister name) (reply.Unregistered ids) id target h = h
left_in (Register name kind notes) (reply.Replaced ids) id target h = h
left_in call r id target h = refl

pub target_left : (e : Entry) (id target : Name) → has_ended id target e ≡ false → has_unregistered target e ≡ false
target_left End id target h = h
target_left (Change client number call outcome r outgoing) id target h = left_in call r id target h

module _ (limit : ℕ) where
  pub entry_leaves : (m : Machine) (e : Entry) (name : Name) (k : Kind) → Steps limit m e → HasKind m name k → has_unregistered name e ≡ false
      → HasKind (applied limit m e) name k
  entry_leaves m End name k s h u = absurd (true≢false u)
  entry_leaves m (Change client number call outcome r outgoing) name k s h u =
      (comes (Leaves call m) m (judged limit m call) outcome _ (judged_leaves limit m call) s.0 s.1).keeps name k h u

  entry_adds : (m : Machine) (e : Entry) (name : Name) (k : Kind) → Steps limit m e → HasRegistered e name k → HasKind (applied limit m e) name k
  entry_adds m End name k s h = absurd h
  entry_adds m (Change client number call outcome r outgoing) name k s h =
      (comes (Leaves call m) m (judged limit m call) outcome _ (judged_leaves limit m call) s.0 s.1).adds name k h

  run_leaves : (m : Machine) (es : List Entry) (name : Name) (k : Kind) → Runs limit m es → HasKind m name k → list_any (has_unregistered name) es ≡ false
      → HasKind (replay_from limit m es) name k
  run_leaves m [] name k r h u = h
  run_leaves m (e ∷ es) name k r h u =
      let parts = neither (has_unregistered name e) (list_any (has_unregistered name) es) u in
      run_leaves (applied limit m e) es name k r.1 (entry_leaves m e name k r.0 h parts.0) parts.1

  pub is_registered : (h : List Entry) (name : Name) (k : Kind) → Runs limit empty h → IsRegistered h name k → HasKind (replay limit h) name k
  is_registered h name k r is =
      let m = replay limit is.before in
      let after = runs_after limit empty is.before (is.registrar ∷ is.after) (subst (λ l. Runs limit empty l) is.parts r) in
      subst (λ (z : Machine). HasKind z name k) (sym (ap (replay limit) is.parts ∙ replay-append limit empty is.before (is.registrar ∷ is.after)))
      (run_leaves (applied limit m is.registrar) is.after name k after.1 (entry_adds m is.registrar name k after.0 is.registered) is.lasts)
