use Rattle.std.proofs.Common.{◌≡◌, [], ◌∷◌, ◌++◌, Option, None, Some, Ok, Err, ap, sym, ◌∙◌, subst, refl}
use Rattle.comm_value.specs.Tree.{Members}
use Rattle.comm_targets.specs.declared.answer.Answer.{Answer}
use Rattle.comm_targets.specs.Meaning.{Meaning, after_commit}
use Rattle.comm_targets.specs.declared.staged_event.StagedEvent.{StagedEvent}
use Rattle.comm_core.specs.Machine.{Name, at, with_at}
use Rattle.comm_core.specs.Step.{Outcome, stated}
use Rattle.comm_core.specs.Tables.{Targets, Opens, HaveStaged, machine_of, unstaged}
use Rattle.comm_core.specs.Plans.{Carried, Suits, planned, staged_by}
use Rattle.comm_core.specs.Told.{HasStateOf, id_of, is_opening}
use Rattle.comm_core.specs.declared.comm.Comm.{Comm}
use Rattle.comm_core.specs.declared.table_update.TableUpdate.TheVariants.{Commit}
use Rattle.comm_core.specs.declared.target_request.TargetRequest.{TargetRequest}
use Rattle.comm_core.proofs.Committing.{committed_opening, committed_update, fresh_at}
use Rattle.comm_core.proofs.apply.commit.Goals as goal

-- what is written under the name of one request is written under that of an equal one
written : (b b2 : Targets) (p q : TargetRequest) → p ≡ q → ((m : Meaning) (s : StagedEvent) → at b p.name ≡ Some m → m.staged ≡ Some s → b2 ≡ with_at b p.name (after_commit m s))
    → (m : Meaning) (s : StagedEvent) → at b q.name ≡ Some m → m.staged ≡ Some s → b2 ≡ with_at b q.name (after_commit m s)
written b b2 p q e h = subst (λ (r : TargetRequest). (m : Meaning) (s : StagedEvent) → at b r.name ≡ Some m → m.staged ≡ Some s → b2 ≡ with_at b r.name (after_commit m s)) e h

-- an outcome that suits a commit is an answer
answered : (b : Targets) (c : Opens) (m : Option Meaning) (q : TargetRequest) (o : Option Outcome) → Suits b c m (Commit q) o → (a : Answer) × (o ≡ Some (Ok a))
answered b c m q (Some (Ok a)) h = (a, refl)
answered b c m q (Some (Err f)) h = absurd h
answered b c m q None h = absurd h

-- which has the state that is kept
given : (o p : Option Outcome) (s : Option Members) (a : Answer) → HasStateOf o s → o ≡ p → p ≡ Some (Ok a) → s ≡ a.state
given o p s a h e f = subst (λ (x : Option Outcome). HasStateOf x s) (e ∙ f) h

-- what is carried out of an answer is carried out of the outcome
carried_of : (b b2 : Targets) (c c2 : Opens) (m : Option Meaning) (q : TargetRequest) (o : Option Outcome) (a : Answer) → o ≡ Some (Ok a) → HaveStaged b (staged_by (Commit q) o) → Suits (unstaged b) c m (Commit q) o
    → (HaveStaged b (staged_by (Commit q) (Some (Ok a))) → Suits (unstaged b) c None (Commit q) (Some (Ok a)) → Carried b2 c2 (planned (machine_of b c) (Commit q) (Some (Ok a))))
    → Carried b2 c2 (planned (machine_of b c) (Commit q) o)
carried_of b b2 c c2 m q o a e staged suits f =
    subst (λ (x : Option Outcome). Carried b2 c2 (planned (machine_of b c) (Commit q) x)) (sym e)
    (f (subst (λ (x : Option Outcome). HaveStaged b (staged_by (Commit q) x)) e staged) (subst (λ (x : Option Outcome). Suits (unstaged b) c m (Commit q) x) e suits))

-- the comm that is noted is the same
noted : (comms : Opens) (i j p q : Name) (s t : Option Members) → i ≡ j → p ≡ q → s ≡ t → comms ++ (i, record { target = p; state = s }) ∷ [] ≡ comms ++ (j, record { target = q; state = t }) ∷ []
noted comms i j p q s t h d e = ap (λ (x : Name × Name × Option Members). comms ++ (x.0, record { target = x.1; state = x.2 }) ∷ []) (λ k. (h k, d k, e k))

-- and so is its state
told_at : (comms after : Opens) (i j : Name) (s t : Option Members) → i ≡ j → s ≡ t → ((x : Comm) → at comms i ≡ Some x → after ≡ stated comms i x.target s) → (x : Comm) → at comms j ≡ Some x → after ≡ stated comms j x.target t
told_at comms after i j s t h e f = subst (λ (k : Name × Option Members). (x : Comm) → at comms k.0 ≡ Some x → after ≡ stated comms k.0 x.target k.1) (λ k. (h k, e k)) f

pub note_open-requires-clause-fresh : goal.note_open-requires-clause-fresh
note_open-requires-clause-fresh g c =
    let event = ap (λ (r : TargetRequest). r.event) c.request.view_is in
    let a = answered (unstaged c.args.targets.now.all) c.args.comms.now.all c.requires.suits.0 c.args.request c.args.outcome c.requires.suits.1 in
    let suits = subst (λ (x : Option Outcome). Suits (unstaged c.args.targets.now.all) c.args.comms.now.all c.requires.suits.0 (Commit c.args.request) x) a.1 c.requires.suits.1 in
    subst (λ (i : Name). at c.args.comms.now.all i ≡ None) (sym (c.request.invariant.0 ∙ ap id_of event))
    (fresh_at c.args.comms.now.all c.args.request.name c.args.request.event (ap is_opening (sym event) ∙ (sym c.request.invariant.1 ∙ c.if-opens.true)) suits.1)

pub returns-then-opens : goal.returns-then-opens
returns-then-opens g c =
    let e = c.request.view_is in
    let name = ap (λ (r : TargetRequest). r.name) e in
    let event = ap (λ (r : TargetRequest). r.event) e in
    let a = answered (unstaged c.args.targets.now.all) c.args.comms.now.all c.requires.suits.0 c.args.request c.args.outcome c.requires.suits.1 in
    let s = given _ _ _ _ c.outcome.invariant c.outcome.view_is a.1 in
    carried_of _ _ _ _ c.requires.suits.0 c.args.request _ a.0 a.1 c.requires.staged c.requires.suits.1
    (λ staged suits. committed_opening _ _ c.requires.agrees c.args.request a.0 staged suits _ _ (written _ _ _ _ e c.commit.ensures.all) c.args.request.event refl
    (ap is_opening (sym event) ∙ (sym c.request.invariant.1 ∙ c.if-opens.true)) (c.note_open.ensures ∙ noted _ _ _ _ _ _ _ (c.request.invariant.0 ∙ ap id_of event) name s))

pub returns : goal.returns
returns g c =
    let e = c.request.view_is in
    let event = ap (λ (r : TargetRequest). r.event) e in
    let a = answered (unstaged c.args.targets.now.all) c.args.comms.now.all c.requires.suits.0 c.args.request c.args.outcome c.requires.suits.1 in
    let s = given _ _ _ _ c.outcome.invariant c.outcome.view_is a.1 in
    carried_of _ _ _ _ c.requires.suits.0 c.args.request _ a.0 a.1 c.requires.staged c.requires.suits.1
    (λ staged suits. committed_update _ _ c.requires.agrees c.args.request a.0 staged suits _ _ (written _ _ _ _ e c.commit.ensures.all) c.args.request.event refl
    (ap is_opening (sym event) ∙ (sym c.request.invariant.1 ∙ c.if-opens.false)) (told_at _ _ _ _ _ _ (c.request.invariant.0 ∙ ap id_of event) s c.note_state.ensures))
