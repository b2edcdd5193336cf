-- The tables after a target's change is made, and after a target is registered.
use Rattle.std.proofs.Common.{◌≡◌, ℕ, [], ◌∷◌, ◌++◌, Option, None, Some, is_some, IsSome, Ok, Err, true, false, ap, sym, ◌∙◌, subst, true≢false}
use Rattle.comm_value.specs.Tree.{Members}
use Rattle.comm_messages.specs.Content.{Content}
use Rattle.comm_targets.specs.Meaning.{Meaning, IsIdle, after_commit, ids_after, notes_after}
use Rattle.comm_targets.specs.declared.kind.Kind.{Kind}
use Rattle.comm_targets.specs.declared.staged_event.StagedEvent.{StagedEvent}
use Rattle.comm_targets.specs.declared.event.Event.{Event}
use Rattle.comm_targets.specs.declared.event.Event.TheVariants as event
use Rattle.comm_targets.specs.declared.answer.Answer.{Answer}
use Rattle.comm_core.specs.Machine.{Name, at, with_at}
use Rattle.comm_targets.specs.declared.fault.TargetFault.{TargetFault}
use Rattle.comm_core.specs.Step.{Outcome, answer_step, stated, with_another, with_answer}
use Rattle.comm_core.specs.Tables.{Targets, Opens, machine_of, Agrees, HaveStaged, unstaged}
use Rattle.comm_core.specs.Plans.{Carried, Suits, SuitsComms, planned, staged_by}
use Rattle.comm_core.specs.Told.{id_of, is_opening}
use Rattle.comm_core.specs.declared.comm.Comm.{Comm}
use Rattle.comm_core.specs.declared.target_request.TargetRequest.{TargetRequest}
use Rattle.comm_core.specs.declared.table_update.TableUpdate.{TableUpdate}
use Rattle.comm_core.specs.declared.table_update.TableUpdate.TheVariants.{Register, Replace, Commit}
use Rattle.comm_core.proofs.Agreeing.{some-at}
use Rattle.comm_core.proofs.Staging.{unstaged-there, none_of, some-is}
use Rattle.comm_core.proofs.Carried.{is_stage, opened_carried, told_carried, registered_carried, open_notes, launch_notes}

module _ (b : Targets) (c : Opens) (h : Agrees (unstaged b) c) (q : TargetRequest) (a : Answer) (staged : HaveStaged b (staged_by (Commit q) (Some (Ok a))))
    (suits : Suits (unstaged b) c None (Commit q) (Some (Ok a))) (b2 : Targets) (c2 : Opens)
    (written : (m : Meaning) (s : StagedEvent) → at b q.name ≡ Some m → m.staged ≡ Some s → b2 ≡ with_at b q.name (after_commit m s)) where
  abbrev Goal : Event → Type 0
  Goal e = Carried b2 c2 (answer_step (machine_of b c) q.name e a).next

  here : (m : Meaning) × (at b q.name ≡ Some m)
  here = some-at (at b q.name) (sym (unstaged-there b q.name) ∙ suits.0)

  eb : b2 ≡ with_at b q.name (after_commit here.0 (record { event = q.event; answer = a }))
  eb = written here.0 (record { event = q.event; answer = a }) here.1 (is_stage b c h q.name q.event a staged here.0 here.1)

  pub commit_opened : (id : Name) (version : Option Name) (body : Content) → q.event ≡ event.Open id version body → c2 ≡ c ++ (id, record { target = q.name; state = a.state }) ∷ [] → Goal q.event
  commit_opened id version body e ec =
      subst Goal (sym e) (opened_carried b c h q.name q.event a staged here.0 here.1 b2 c2 eb id (ap (ids_after here.0.ids) e) (ap (notes_after here.0.kind here.0.notes) e ∙ open_notes here.0.kind here.0.notes id version body)
      (subst (SuitsComms c q.name) e suits.1) ec)

  pub commit_launched : (id : Name) (state : Members) → q.event ≡ event.Launch id state → c2 ≡ c ++ (id, record { target = q.name; state = a.state }) ∷ [] → Goal q.event
  commit_launched id state e ec =
      subst Goal (sym e) (opened_carried b c h q.name q.event a staged here.0 here.1 b2 c2 eb id (ap (ids_after here.0.ids) e) (ap (notes_after here.0.kind here.0.notes) e ∙ launch_notes here.0.kind here.0.notes id state)
      (subst (SuitsComms c q.name) e suits.1) ec)

  pub commit_told : (id : Name) (body : Content) → q.event ≡ event.Msg id body → ((x : Comm) → at c id ≡ Some x → c2 ≡ stated c id x.target a.state) → Goal q.event
  commit_told id body e ec =
      let s : SuitsComms c q.name (event.Msg id body) = subst (SuitsComms c q.name) e suits.1 in
      let r = told_carried b c h q.name q.event a staged here.0 here.1 b2 c2 eb id s.0 (ap (ids_after here.0.ids) e) s.1 s.2 (ec s.0 s.1 ∙ ap (λ t. stated c id t a.state) s.2) in
      subst Goal (sym e) (subst (λ k. Carried b2 c2 (with_answer (machine_of b c) id q.name k a)) e r)

  pub commit_pushed : (id : Name) (state : Members) → q.event ≡ event.Push id state → ((x : Comm) → at c id ≡ Some x → c2 ≡ stated c id x.target a.state) → Goal q.event
  commit_pushed id state e ec =
      let s : SuitsComms c q.name (event.Push id state) = subst (SuitsComms c q.name) e suits.1 in
      let r = told_carried b c h q.name q.event a staged here.0 here.1 b2 c2 eb id s.0 (ap (ids_after here.0.ids) e) s.1 s.2 (ec s.0 s.1 ∙ ap (λ t. stated c id t a.state) s.2) in
      subst Goal (sym e) (subst (λ k. Carried b2 c2 (with_answer (machine_of b c) id q.name k a)) e r)

  pub committed_opening : (e : Event) → q.event ≡ e → is_opening e ≡ true → c2 ≡ c ++ (id_of e, record { target = q.name; state = a.state }) ∷ [] → Goal q.event
  committed_opening (event.Open id version body) e o ec = commit_opened id version body e ec
  committed_opening (event.Launch id state) e o ec = commit_launched id state e ec
  committed_opening (event.Msg id body) e o ec = absurd (true≢false (sym o))
  committed_opening (event.Push id state) e o ec = absurd (true≢false (sym o))

  pub committed_update : (e : Event) → q.event ≡ e → is_opening e ≡ false → ((x : Comm) → at c (id_of e) ≡ Some x → c2 ≡ stated c (id_of e) x.target a.state) → Goal q.event
  committed_update (event.Open id version body) e o ec = absurd (true≢false o)
  committed_update (event.Launch id state) e o ec = absurd (true≢false o)
  committed_update (event.Msg id body) e o ec = commit_told id body e ec
  committed_update (event.Push id state) e o ec = commit_pushed id state e ec

-- a comm that is opened isn't there yet
pub fresh_at : (c : Opens) (name : Name) (e : Event) → is_opening e ≡ true → SuitsComms c name e → at c (id_of e) ≡ None
fresh_at c name (event.Open id version body) o h = h
fresh_at c name (event.Launch id state) o h = h
fresh_at c name (event.Msg id body) o h = absurd (true≢false (sym o))
fresh_at c name (event.Push id state) o h = absurd (true≢false (sym o))

-- ---- the update of the table of a register

none≢some : {X : Type 0} (x : X) {P : Type 0} → ◌≡◌ {A = Option X} None (Some x) → P
none≢some x e = cc

some_same : {X : Type 0} (x y : X) → Some x ≡ Some y → x ≡ y
some_same x y e = cc

module _ (b : Targets) (c : Opens) (h : Agrees (unstaged b) c) (table_update : TableUpdate) (o : Option Outcome) (name : Name) (kind : Kind) (notes : ℕ) (is : table_update ≡ Register name kind notes)
    (staged : HaveStaged b (staged_by table_update o)) where
  none : HaveStaged b (λ _. None)
  none n m there = staged n m there ∙ ap (λ p. staged_by p o n) is

  pub register_made : (registered : Option Meaning) (m : Meaning) → Suits (unstaged b) c registered table_update o → registered ≡ Some m → (b2 : Targets) (c2 : Opens) → b2 ≡ b ++ (name, m) ∷ [] → c2 ≡ c
      → Carried b2 c2 (planned (machine_of b c) table_update o)
  register_made registered m suits there b2 c2 eb ec =
      let s : Suits (unstaged b) c registered (Register name kind notes) o = subst (λ p. Suits (unstaged b) c registered p o) is suits in
      let same : s.0 ≡ m = some_same s.0 m (sym s.1.0 ∙ there) in
      let fresh : at b name ≡ None = none_of (at b name) (sym (unstaged-there b name) ∙ ap is_some s.1.1) in
      let made = registered_carried b c h none b2 c2 name m kind notes (ap (λ (k : Meaning). k.kind) (sym same) ∙ s.2) (ap (λ (k : Meaning). k.notes) (sym same) ∙ s.3) (subst IsIdle same s.1.2) s.1.1 fresh eb ec in
      subst (λ p. Carried b2 c2 (planned (machine_of b c) p o)) (sym is) made

  -- it hands a target in
  pub register_hands : (registered : Option Meaning) {P : Type 0} → Suits (unstaged b) c registered table_update o → registered ≡ None → P
  register_hands registered suits nothing =
      let s : Suits (unstaged b) c registered (Register name kind notes) o = subst (λ p. Suits (unstaged b) c registered p o) is suits in
      none≢some s.0 (sym nothing ∙ s.1.0)

  pub register_idle : (registered : Option Meaning) (m : Meaning) → Suits (unstaged b) c registered table_update o → registered ≡ Some m → IsIdle m
  register_idle registered m suits there =
      let s : Suits (unstaged b) c registered (Register name kind notes) o = subst (λ p. Suits (unstaged b) c registered p o) is suits in
      subst IsIdle (some_same s.0 m (sym s.1.0 ∙ there)) s.1.2

-- ---- the update of the table to replace a target

module _ (b : Targets) (c : Opens) (table_update : TableUpdate) (o : Option Outcome) (name : Name) (kind : Kind) (notes : ℕ) (is : table_update ≡ Replace name kind notes) where
  pub replace_stages : HaveStaged b (staged_by table_update o) → HaveStaged b (λ _. None)
  replace_stages staged n m there = staged n m there ∙ ap (λ p. staged_by p o n) is

  module _ (registered : Option Meaning) (suits : Suits (unstaged b) c registered table_update o) where
    abbrev successor : Suits (unstaged b) c registered (Replace name kind notes) o
    successor = subst (λ p. Suits (unstaged b) c registered p o) is suits

    pub replace_here : IsSome (at b name)
    replace_here = some-is (at b name) (sym (unstaged-there b name) ∙ successor.1.1)

    -- it hands a target in
    pub replace_hands : {P : Type 0} → registered ≡ None → P
    replace_hands nothing = none≢some successor.0 (sym nothing ∙ successor.1.0)

    module _ (m : Meaning) (there : registered ≡ Some m) where
      successor_is : successor.0 ≡ m
      successor_is = some_same successor.0 m (sym successor.1.0 ∙ there)

      pub replace_idle : IsIdle m
      replace_idle = subst IsIdle successor_is successor.1.2

      pub replace_made : (b2 : Targets) (c2 : Opens) → Carried b2 c2 (with_another (machine_of b c) name m.kind m.notes) → Carried b2 c2 (planned (machine_of b c) table_update o)
      replace_made b2 c2 made =
          let kinds : m.kind ≡ kind = ap (λ (k : Meaning). k.kind) (sym successor_is) ∙ successor.2 in
          let noted : m.notes ≡ notes = ap (λ (k : Meaning). k.notes) (sym successor_is) ∙ successor.3 in
          let same : Carried b2 c2 (with_another (machine_of b c) name kind notes) =
          subst (λ n. Carried b2 c2 (with_another (machine_of b c) name kind n)) noted (subst (λ k. Carried b2 c2 (with_another (machine_of b c) name k m.notes)) kinds made) in
          subst (λ p. Carried b2 c2 (planned (machine_of b c) p o)) (sym is) same

-- ---- an update of the table that makes what a target staged has its answer

module _ (b : Targets) (c : Opens) (registered : Option Meaning) (table_update : TableUpdate) (o : Option Outcome) (q : TargetRequest) (is : table_update ≡ Commit q) (suits : Suits (unstaged b) c registered table_update o) where
  abbrev suits' : Suits (unstaged b) c registered (Commit q) o
  suits' = subst (λ p. Suits (unstaged b) c registered p o) is suits

  pub commit_answers : (a : Answer) → o ≡ Some (Ok a) → Suits (unstaged b) c None (Commit q) (Some (Ok a))
  commit_answers a e = let s : Suits (unstaged b) c registered (Commit q) (Some (Ok a)) = subst (Suits (unstaged b) c registered (Commit q)) e suits' in s

  pub commit_fails : {P : Type 0} (f : TargetFault) → o ≡ Some (Err f) → P
  commit_fails f e = absurd (subst (Suits (unstaged b) c registered (Commit q)) e suits')

  pub commit_lacks : {P : Type 0} → o ≡ None → P
  commit_lacks e = absurd (subst (Suits (unstaged b) c registered (Commit q)) e suits')
