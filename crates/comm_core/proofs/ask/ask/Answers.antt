use Rattle.std.proofs.Common.{◌≡◌, ◌⊎◌, ℕ, true, List, [], ◌∷◌, Option, Some, Ok, option_map, refl, ap, sym, ◌∙◌, subst, true≢false}
use Rattle.comm_value.specs.Tree.{Members}
use Rattle.comm_messages.specs.Content.{Content}
use Rattle.comm_messages.specs.declared.outgoing.Outgoing.{Outgoing}
use Rattle.comm_targets.specs.Answers.{Answers, MayAnswer, Refuses}
use Rattle.comm_targets.specs.Meaning.{Meaning, after_prepare, is_widget}
use Rattle.comm_targets.specs.Widget.{new_state}
use Rattle.comm_targets.specs.declared.answer.Answer.{Answer}
use Rattle.comm_targets.specs.declared.event.Event.{Event}
use Rattle.comm_targets.specs.declared.event.Event.TheVariants as event
use Rattle.comm_targets.specs.declared.kind.Kind.{Kind}
use Rattle.comm_targets.specs.declared.kind.Kind.TheVariants.{Echo, Counter, Widget, WidgetEcho, Plain, Opaque, Free}
use Rattle.comm_targets.specs.declared.fault.TargetFault.TheVariants.{Memory}
use Rattle.comm_core.specs.Machine.{Name, Machine, at, with_at}
use Rattle.comm_core.specs.Step.{Stepped, answer_step, holds_widget, messages_of}
use Rattle.comm_core.specs.Tables.{Targets, machine_of, registered_of, targets_of}
use Rattle.comm_core.specs.Told.{asked, bodies_in}
use Rattle.comm_core.specs.declared.reply.Reply.{Reply}
use Rattle.comm_core.specs.Plans.{HasAnswered, SuitsKind}
use Rattle.comm_core.specs.declared.target_request.TargetRequest.{TargetRequest}
use Rattle.comm_core.specs.declared.table_update.TableUpdate.TheVariants.{Commit}
use Rattle.comm_core.proofs.Names.{has_target, target_at}
use Rattle.comm_core.proofs.Agreeing.{some-at}
use Rattle.comm_core.proofs.Staging.{some-is, is_staged, taken_back, not_memory}
use Rattle.comm_core.proofs.Asking.{askable, can_refuse, answered_well, refused_well}
use Rattle.comm_core.proofs.ask.ask.Goals as goal

pub prepare-requires-clause-here : goal.prepare-requires-clause-here
prepare-requires-clause-here g c κs within = some-is _ (sym (has_target c.args.targets.now.all c.args.name) ∙ c.requires.asked.here)

pub prepare-requires-clause-askable : goal.prepare-requires-clause-askable
prepare-requires-clause-askable g c κs within = λ m is.
    askable c.args.targets.now.all c.args.comms.now.all c.requires.agrees c.args.name c.args.event c.requires.asked.comms_suit c.requires.asked.kind_suits m is

pub abandon-requires-clause-staged : goal.abandon-requires-clause-staged
abandon-requires-clause-staged g c κs within =
    let m = some-at (at c.args.targets.now.all c.args.name) (sym (has_target c.args.targets.now.all c.args.name) ∙ c.requires.asked.here) in
    is_staged _ _ _ m.0 _ _ m.1 (c.in-Ok.ensures.staged m.0 m.1)

pub returns-in-Ok-answer_step-clause-came : goal.returns-in-Ok-answer_step-clause-came
returns-in-Ok-answer_step-clause-came g c =
    let b = c.args.targets.now.all in
    let q = asked c.args.name c.args.state.now c.args.event in
    let m = some-at (at b c.args.name) (sym (has_target b c.args.name) ∙ c.requires.asked.here) in
    let a = c.take-kept.result.0 in
    let kept = sym c.take-kept.ensures.kept in
    let given = subst (λ (n : Option Members). MayAnswer m.0 n c.args.event c.in-Ok.answer) c.as_ref.ensures.value (c.in-Ok.ensures.answers m.0 m.1) in
    let answers = subst (MayAnswer m.0 c.args.state.now c.args.event) kept given in
    let steps = c.in-Ok-answer_step.ensures a (c.take-kept.ensures.messages ∙ ap (λ (x : Answer). x.messages) kept) (ap (λ (x : Answer). x.custom) c.kept.view_is) in
    subst (λ (x : TargetRequest). HasAnswered b c.args.comms.now.all q (Some (Ok a)) c.in-Ok-answer_step.reply c.in-Ok-answer_step.outgoing.items (Commit x) c.prepare.new.self.all) (sym c.new.ensures)
    (answered_well b c.args.comms.now.all q c.requires.asked c.requires.none m.0 m.1 a _ _ _ answers
    (c.in-Ok.ensures.staged m.0 m.1 ∙ ap (λ (x : Answer). with_at b c.args.name (after_prepare m.0 c.args.event x)) kept) steps)

pub returns-in-Err-answer_step-clause-err : goal.returns-in-Err-answer_step-clause-err
returns-in-Err-answer_step-clause-err g c =
    let m = some-at (at c.args.targets.now.all c.args.name) (sym (has_target c.args.targets.now.all c.args.name) ∙ c.requires.asked.here) in
    taken_back _ _ _ m.0 _ _ m.1 (c.in-Ok.ensures.staged m.0 m.1) _ (c.requires.none _ m.0 m.1) c.abandon.ensures.all

pub returns-in_ok-reply-in-Err-clause-came : goal.returns-in_ok-reply-in-Err-clause-came
returns-in_ok-reply-in-Err-clause-came g c =
    let m = some-at (at c.args.targets.now.all c.args.name) (sym (has_target c.args.targets.now.all c.args.name) ∙ c.requires.asked.here) in
    refused_well c.args.targets.now.all c.args.comms.now.all _ c.requires.asked c.requires.none m.0 m.1 c.in-Err.fault _ _ _
    (not_memory c.in-Err.fault (sym c.is_memory.ensures ∙ c.if-is_memory.false)
    (subst (λ (n : Option Members). (c.in-Err.fault ≡ Memory) ⊎ Refuses m.0.kind m.0.notes n c.args.event c.in-Err.fault) c.as_ref.ensures.value (c.in-Err.ensures.refuses m.0 m.1)))
    c.in-Err.ensures.unchanged c.in_ok-reply-in-Err.ensures

pub refusal_step-refusal-requires : goal.refusal_step-refusal-requires
refusal_step-refusal-requires g c =
    let m = some-at (at c.args.targets.now.all c.args.name) (sym (has_target c.args.targets.now.all c.args.name) ∙ c.requires.asked.here) in
    can_refuse c.args.targets.now.all c.args.comms.now.all c.requires.agrees c.args.name c.args.event c.requires.asked.kind_suits m.0 m.1 _ c.in-Err.fault
    (not_memory c.in-Err.fault (sym c.is_memory.ensures ∙ c.if-is_memory.false) (c.in-Err.ensures.refuses m.0 m.1))

-- what goes out as the messages of a comm are these bodies
bodies_back : (id : Name) (bodies : List Content) → bodies_in (messages_of id bodies) ≡ bodies
bodies_back id [] = refl
bodies_back id (b ∷ bs) = ap (λ l. b ∷ l) (bodies_back id bs)

-- a widget says nothing of its launch
silent : (k : Kind) (n : ℕ) (now : Option Members) (id : Name) (state : Members) (a : Answer) → is_widget k ≡ true → Answers k n now (event.Launch id state) a → [] ≡ a.messages
silent Widget n now id state a is h = let same : new_state state ≡ a = cc in ap (λ (b : Answer). b.messages) same
silent WidgetEcho n now id state a is h = let same : new_state state ≡ a = cc in ap (λ (b : Answer). b.messages) same
silent Echo n now id state a is h = absurd (true≢false (sym is))
silent Counter n now id state a is h = absurd (true≢false (sym is))
silent Plain n now id state a is h = absurd (true≢false (sym is))
silent Opaque n now id state a is h = absurd (true≢false (sym is))
silent Free n now id state a is h = absurd (true≢false (sym is))

widget_there : (b : Targets) (t : Name) (m : Meaning) → at b t ≡ Some m → holds_widget (at (targets_of b) t) ≡ true → is_widget m.kind ≡ true
widget_there b t m is w = sym (ap holds_widget (target_at b t ∙ ap (option_map registered_of) is)) ∙ w

told : (b : Targets) (name : Name) (e : Event) (m : Meaning) (now : Option Members) (a : Answer) (r : Reply) (out : List Outgoing) (M N : Machine) → SuitsKind b name e → at b name ≡ Some m
    → Answers m.kind m.notes now e a → answer_step M name e a ≡ record { reply = r; outgoing = out; next = N } → a.messages ≡ bodies_in out
told b name (event.Open id version body) m now a r out M N k is h s = sym (bodies_back id a.messages) ∙ ap (λ (t : Stepped). bodies_in t.outgoing) s
told b name (event.Msg id body) m now a r out M N k is h s = sym (bodies_back id a.messages) ∙ ap (λ (t : Stepped). bodies_in t.outgoing) s
told b name (event.Launch id state) m now a r out M N k is h s =
    sym (silent m.kind m.notes now id state a (widget_there b name m is k) h) ∙ ap (λ (t : Stepped). bodies_in t.outgoing) s
told b name (event.Push id state) m now a r out M N k is h s = sym (bodies_back id a.messages) ∙ ap (λ (t : Stepped). bodies_in t.outgoing) s

pub returns-in-Ok-answer_step-clause-told : goal.returns-in-Ok-answer_step-clause-told
returns-in-Ok-answer_step-clause-told g c =
    let b = c.args.targets.now.all in
    let m = some-at (at b c.args.name) (sym (has_target b c.args.name) ∙ c.requires.asked.here) in
    let a = c.take-kept.result.0 in
    let kept = sym c.take-kept.ensures.kept in
    let given = subst (λ (n : Option Members). MayAnswer m.0 n c.args.event c.in-Ok.answer) c.as_ref.ensures.value (c.in-Ok.ensures.answers m.0 m.1) in
    let answers = subst (MayAnswer m.0 c.args.state.now c.args.event) kept given in
    let steps = c.in-Ok-answer_step.ensures a (c.take-kept.ensures.messages ∙ ap (λ (x : Answer). x.messages) kept) (ap (λ (x : Answer). x.custom) c.kept.view_is) in
    told b c.args.name c.args.event m.0 _ a _ _ (machine_of b c.args.comms.now.all) _ c.requires.asked.kind_suits m.1 answers (steps (machine_of b c.args.comms.now.all))
