-- The tables after an update of the table is carried out.
use Rattle.std.proofs.Common.{◌≡◌, ℕ, true, false, cond, List, [], ◌∷◌, ◌++◌, Option, None, Some, option_map, refl, ap, sym, ◌∙◌, subst}
use Rattle.std.specs.Str.{bytes_eq}
use Rattle.comm_value.specs.Tree.{Members}
use Rattle.comm_targets.specs.Meaning.{Meaning, IsIdle, after_abandon, after_commit, after_close, ids_after, notes_after}
use Rattle.comm_targets.specs.declared.kind.Kind.{Kind}
use Rattle.comm_targets.specs.declared.kind.Kind.TheVariants.{Echo, Counter, Widget, WidgetEcho, Plain, Opaque, Free}
use Rattle.comm_targets.specs.declared.staged_event.StagedEvent.{StagedEvent}
use Rattle.comm_targets.specs.declared.event.Event.{Event}
use Rattle.comm_targets.specs.declared.event.Event.TheVariants as event
use Rattle.comm_targets.specs.declared.answer.Answer.{Answer}
use Rattle.comm_messages.specs.Content.{Content}
use Rattle.comm_core.specs.Machine.{Name, Registered, Machine, at, with_at, without, others}
use Rattle.comm_core.specs.Step.{stated, noted, with_answer, with_comm, without_comm, with_another, with_target, without_target}
use Rattle.comm_core.specs.Tables.{Targets, Opens, registered_of, targets_of, machine_of, Agrees, HaveStaged, unstaged}
use Rattle.comm_core.specs.Plans.{Carried}
use Rattle.comm_core.specs.declared.comm.Comm.{Comm}
use Rattle.comm_core.proofs.Entries.{set-map, remove-map, remove-absent, map-append}
use Rattle.comm_core.proofs.Keys.{same_text, text_itself, at-with_at, at-with_at-other, with_at-same}
use Rattle.comm_core.proofs.Names.{target_at}
use Rattle.comm_core.proofs.Gone.{at-without}
use Rattle.comm_core.proofs.Agreeing.{at-more, at-newest, agrees-opened, agrees-told, agrees-stated, agrees-closed, agrees-unregistered, agrees-replaced, agrees-registered}
use Rattle.comm_core.proofs.Staging.{unstaged-at, distinct-unstaged}

abbrev whole : List (Name × Registered) → Opens → Machine
whole n k = record { targets = n; comms = k }

-- a target is written that has nothing staged then, and the others had nothing
written-unstaged : (b : Targets) (t : Name) (m n : Meaning) → at b t ≡ Some m → n.staged ≡ None → ((name : Name) (k : Meaning) → bytes_eq name t ≡ false → at b name ≡ Some k → k.staged ≡ None)
    → HaveStaged (with_at b t n) (λ _. None)
written-unstaged b t m n is none others name k there =
    (elim (bytes_eq name t) as (λ x. bytes_eq name t ≡ x → k.staged ≡ None) [
      | true ↦ λ p.
          let q : at (with_at b t n) t ≡ Some k = subst (λ k'. at (with_at b t n) k' ≡ Some k) (same_text name t p) there in
          let z = at-with_at t b m n is in
          let v : n ≡ k = cc in ap (λ (k : Meaning). k.staged) (sym v) ∙ none
      | false ↦ λ p. others name k p (sym (at-with_at-other t b n name p) ∙ there)
    ]) refl

unstaged-written : (b : Targets) (t : Name) (n : Meaning) → unstaged (with_at b t n) ≡ with_at (unstaged b) t (after_abandon n)
unstaged-written b t n = sym (set-map (λ k. k) after_abandon (bytes_eq t) b n)

targets-written : (b : Targets) (t : Name) (n : Meaning) → targets_of (with_at b t n) ≡ with_at (targets_of b) t (registered_of n)
targets-written b t n = sym (set-map (λ k. k) registered_of (bytes_eq t) b n)

targets-kept : (b : Targets) (t : Name) (m n : Meaning) → at b t ≡ Some m → registered_of n ≡ registered_of m → targets_of (with_at b t n) ≡ targets_of b
targets-kept b t m n is kept =
    targets-written b t n ∙ ap (with_at (targets_of b) t) kept ∙ with_at-same t (targets_of b) (registered_of m) (target_at b t ∙ ap (option_map registered_of) is)

-- ---- a change that a target staged

module _ (b : Targets) (c : Opens) (h : Agrees (unstaged b) c) (t : Name) (e : Event) (a : Answer)
    (staged : HaveStaged b (λ name. cond (bytes_eq name t) (Some (record { event = e; answer = a })) None)) (m : Meaning) (is : at b t ≡ Some m) where
  abbrev pub stage : StagedEvent
  stage = record { event = e; answer = a }

  pub is_stage : m.staged ≡ Some stage
  is_stage = rw (text_itself t) at (staged t m is)

  others_none : (name : Name) (k : Meaning) → bytes_eq name t ≡ false → at b name ≡ Some k → k.staged ≡ None
  others_none name k p at_k = rw p at (staged name k at_k)

  module _ (b2 : Targets) (c2 : Opens) (eb : b2 ≡ with_at b t (after_commit m stage)) where
    unstaged2 : unstaged b2 ≡ with_at (unstaged b) t (after_abandon (after_commit m stage))
    unstaged2 = ap unstaged eb ∙ unstaged-written b t (after_commit m stage)

    none2 : HaveStaged b2 (λ _. None)
    none2 = rw eb (written-unstaged b t m (after_commit m stage) is refl others_none)

    pub opened_carried : (id : Name) → ids_after m.ids e ≡ m.ids ++ id ∷ [] → notes_after m.kind m.notes e ≡ m.notes → at c id ≡ None
        → c2 ≡ c ++ (id, record { target = t; state = a.state }) ∷ [] → Carried b2 c2 (with_comm (machine_of b c) id t a.state)
    opened_carried id ids notes fresh ec =
        let kept : registered_of (after_commit m stage) ≡ registered_of m = ap (λ (n : ℕ). record { kind = m.kind; notes = n }) notes in
        let names : targets_of b2 ≡ targets_of b = ap targets_of eb ∙ targets-kept b t m (after_commit m stage) is kept in (
          rw (unstaged2, ec) (agrees-opened (unstaged b) c t id (after_abandon m) (after_abandon (after_commit m stage)) (record { target = t; state = a.state }) h (unstaged-at b t m is) fresh ids refl),
          none2,
          ap (λ n. whole n c2) names ∙ ap (whole (targets_of b)) ec,
        )

    pub told_carried : (id : Name) (x : Comm) → ids_after m.ids e ≡ m.ids → at c id ≡ Some x → x.target ≡ t → c2 ≡ stated c id t a.state → Carried b2 c2 (with_answer (machine_of b c) id t e a)
    told_carried id x ids there same ec =
        let names : targets_of b2 ≡ noted (targets_of b) t e (at (targets_of b) t) =
        ap targets_of eb ∙ targets-written b t (after_commit m stage) ∙ sym (ap (noted (targets_of b) t e) (target_at b t ∙ ap (option_map registered_of) is)) in
        let ec' : c2 ≡ stated c id x.target a.state = ec ∙ ap (λ z. stated c id z a.state) (sym same) in (
          rw (unstaged2, ec') (agrees-stated (with_at (unstaged b) t (after_abandon (after_commit m stage))) c id x a.state (agrees-told (unstaged b) c t (after_abandon m) (after_abandon (after_commit m stage)) h (unstaged-at b t m is) ids) there),
          none2,
          ap (λ n. whole n c2) names ∙ ap (whole (noted (targets_of b) t e (at (targets_of b) t))) ec,
        )

-- ---- changes for which no target is asked

module _ (b : Targets) (c : Opens) (h : Agrees (unstaged b) c) (none : HaveStaged b (λ _. None)) (b2 : Targets) (c2 : Opens) where
  pub still_carried : b2 ≡ b → c2 ≡ c → Carried b2 c2 (machine_of b c)
  still_carried eb ec = (rw (eb, ec) h, rw eb none, rw (eb, ec))

  pub closed_carried : (id : Name) (x : Comm) (m : Meaning) → at c id ≡ Some x → at b x.target ≡ Some m → b2 ≡ with_at b x.target (after_close m id) → c2 ≡ without c id
      → Carried b2 c2 (without_comm (machine_of b c) id)
  closed_carried id x m u is eb ec =
      let t = x.target in
      let unstaged2 : unstaged b2 ≡ with_at (unstaged b) t (after_abandon (after_close m id)) = ap unstaged eb ∙ unstaged-written b t (after_close m id) in
      let names : targets_of b2 ≡ targets_of b = ap targets_of eb ∙ targets-kept b t m (after_close m id) is refl in (
        rw (unstaged2, ec) (agrees-closed (unstaged b) c id x (after_abandon m) (after_abandon (after_close m id)) h u (unstaged-at b t m is) refl),
        rw eb (written-unstaged b t m (after_close m id) is (none t m is) (λ name k p at_k. none name k at_k)),
        ap (λ n. whole n c2) names ∙ ap (whole (targets_of b)) ec,
      )

  pub unregistered_carried : (name : Name) → b2 ≡ without b name → c2 ≡ others name c → Carried b2 c2 (without_target (machine_of b c) name)
  unregistered_carried name eb ec =
      let unstaged2 : unstaged b2 ≡ without (unstaged b) name = ap unstaged eb ∙ sym (remove-map (λ k. k) after_abandon (bytes_eq name) b) in
      let names : targets_of b2 ≡ without (targets_of b) name = ap targets_of eb ∙ sym (remove-map (λ k. k) registered_of (bytes_eq name) b) in (
        rw (unstaged2, ec) (agrees-unregistered (unstaged b) c name h),
        rw eb (λ q k at_k. none q k (at-without b name q k (distinct-unstaged b h.names) at_k).0),
        ap (λ n. whole n c2) names ∙ ap (whole (without (targets_of b) name)) ec,
      )

  pub replaced_carried : (name : Name) (was m : Meaning) → at b name ≡ Some was → IsIdle m → b2 ≡ with_at b name m → c2 ≡ others name c
      → Carried b2 c2 (with_another (machine_of b c) name m.kind m.notes)
  replaced_carried name was m is idle eb ec =
      let unstaged2 : unstaged b2 ≡ with_at (unstaged b) name (after_abandon m) = ap unstaged eb ∙ unstaged-written b name m in
      let names : targets_of b2 ≡ with_at (targets_of b) name (registered_of m) = ap targets_of eb ∙ targets-written b name m in (
        rw (unstaged2, ec) (agrees-replaced (unstaged b) c name (after_abandon was) (after_abandon m) h (unstaged-at b name was is) idle.0),
        rw eb (written-unstaged b name was m is idle.1 (λ q k p at_k. none q k at_k)),
        ap (λ n. whole n c2) names ∙ ap (whole (with_at (targets_of b) name (registered_of m))) ec,
      )

  pub registered_carried : (name : Name) (m : Meaning) (k : Kind) (n : ℕ) → m.kind ≡ k → m.notes ≡ n → IsIdle m → at (unstaged b) name ≡ None → at b name ≡ None
      → b2 ≡ b ++ (name, m) ∷ [] → c2 ≡ c → Carried b2 c2 (with_target (machine_of b c) name k n)
  registered_carried name m k n kind notes idle fresh new eb ec =
      let unstaged2 : unstaged b2 ≡ unstaged b ++ (name, after_abandon m) ∷ [] = ap unstaged eb ∙ map-append (λ e. (e.0, after_abandon e.1)) b ((name, m) ∷ []) in
      let r : registered_of m ≡ record { kind = k; notes = n } = ap (λ x. record { kind = x; notes = m.notes }) kind ∙ ap (λ x. record { kind = k; notes = x }) notes in
      let names : targets_of b2 ≡ targets_of b ++ (name, record { kind = k; notes = n }) ∷ [] =
      ap targets_of eb ∙ map-append (λ e. (e.0, registered_of e.1)) b ((name, m) ∷ []) ∙ ap (λ x. targets_of b ++ (name, x) ∷ []) r in (
        rw (unstaged2, ec) (agrees-registered (unstaged b) c name (after_abandon m) h fresh idle.0),
        rw eb (λ q j at_j.
            (elim (bytes_eq q name) as (λ z. bytes_eq q name ≡ z → j.staged ≡ None) [
              | true ↦ λ p.
                  let s : at (b ++ (name, m) ∷ []) name ≡ Some j = subst (λ z. at (b ++ (name, m) ∷ []) z ≡ Some j) (same_text q name p) at_j in
                  let r : m ≡ j = (let q = at-newest b name m new in cc) in sym (ap (λ (z : Meaning). z.staged) r) ∙ idle.1
              | false ↦ λ p. none q j (sym (at-more b name m q p) ∙ at_j)
            ]) refl),
        ap (λ n. whole n c2) names ∙ ap (whole (targets_of b ++ (name, record { kind = k; notes = n }) ∷ [])) ec,
      )

-- ---- notes and ids by the kind of event

pub open_notes : (k : Kind) (n : ℕ) (id : Name) (version : Option Name) (body : Content) → notes_after k n (event.Open id version body) ≡ n
open_notes Echo n id version body = refl
open_notes Counter n id version body = refl
open_notes Widget n id version body = refl
open_notes WidgetEcho n id version body = refl
open_notes Plain n id version body = refl
open_notes Opaque n id version body = refl
open_notes Free n id version body = refl

pub launch_notes : (k : Kind) (n : ℕ) (id : Name) (state : Members) → notes_after k n (event.Launch id state) ≡ n
launch_notes Echo n id state = refl
launch_notes Counter n id state = refl
launch_notes Widget n id state = refl
launch_notes WidgetEcho n id state = refl
launch_notes Plain n id state = refl
launch_notes Opaque n id state = refl
launch_notes Free n id state = refl

pub gone_carried : (b : Targets) (c : Opens) → Agrees (unstaged b) c → HaveStaged b (λ _. None) → (b2 : Targets) (c2 : Opens) (id : Name) → at c id ≡ None → b2 ≡ b → c2 ≡ without c id
    → Carried b2 c2 (without_comm (machine_of b c) id)
gone_carried b c h none b2 c2 id gone eb ec =
    let same : without c id ≡ c = remove-absent (bytes_eq id) c gone in
    (rw (eb, ec, same) h, rw eb none, ap (λ l. machine_of l c2) eb ∙ ap (whole (targets_of b)) ec)
