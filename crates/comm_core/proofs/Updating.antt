-- The states of comms through a run: those of widgets, and those of targets without states.
use Rattle.std.proofs.Common.{◌≡◌, ℕ, Bool, true, false, not, cond, List, [], ◌∷◌, fold, Option, None, Some, Ok, Err, option_map, refl, ap, sym, ◌∙◌, subst, true≢false}
use Rattle.std.specs.Prelude.{codes, Result, unwrap_or}
use Rattle.std.specs.Str.{bytes_eq}
use Rattle.std.specs.List.{list_any, cons_option}
use Rattle.comm_value.specs.Tree.{Tree, text, Members, no_members}
use Rattle.comm_value.specs.Node.{get}
use Rattle.comm_value.specs.Merge.{merged}
use Rattle.comm_messages.specs.Content.{Content}
use Rattle.comm_targets.specs.Widget as widget
use Rattle.comm_targets.specs.Widget.{state_of, message_answer, method_answer, update_answer, answer_with, new_state, merge_answer, custom_answer, nothing, one_message, update_of}
use Rattle.comm_targets.specs.Answers.{Answers}
use Rattle.comm_targets.specs.Meaning.{is_widget}
use Rattle.comm_targets.specs.declared.kind.Kind.{Kind}
use Rattle.comm_targets.specs.declared.kind.Kind.TheVariants.{Echo, Counter, Widget, WidgetEcho, Plain, Opaque, Free}
use Rattle.comm_targets.specs.declared.event.Event.{Event}
use Rattle.comm_targets.specs.declared.event.Event.TheVariants as event
use Rattle.comm_targets.specs.declared.answer.Answer.{Answer}
use Rattle.comm_targets.specs.declared.fault.TargetFault.{TargetFault}
use Rattle.comm_targets.specs.declared.fault.TargetFault.TheVariants.{UnknownMethod, NoMethod}
use Rattle.comm_core.specs.Machine.{Name, Machine, empty, at, has}
use Rattle.comm_core.specs.Step.{Outcome, Gives, judged, is_full, holds_widget, comm_id}
use Rattle.comm_core.specs.History.{applied, replay_from, replay, IsLegal}
use Rattle.comm_core.specs.declared.entry.Entry.{Entry}
use Rattle.comm_core.specs.declared.entry.Entry.TheVariants.{Change, End}
use Rattle.comm_core.specs.Reads.{state_of as state_read, state_in, state_at}
use Rattle.comm_core.specs.Runs.{opening, HasOpened, has_ended, given, given_by, last_given, IsOpenSince, IsLeftOpen}
use Rattle.comm_core.specs.Updates.{IsRegistered, unregistering, when_ok, opening_state, OpensWith, is_update, told_state, update_in, update, update_by, updates}
use Rattle.comm_core.specs.declared.comm.Comm.{Comm}
use Rattle.comm_core.specs.declared.target_request.TargetRequest.{TargetRequest}
use Rattle.comm_core.specs.declared.call.Call.{Call}
use Rattle.comm_core.specs.declared.call.Call.TheVariants.{Register, Open, Msg, Close, Unregister, Launch, Push, Send, HangUp}
use Rattle.comm_core.specs.declared.reply.Reply.{Reply}
use Rattle.comm_core.specs.declared.reply.StateAnswer.TheVariants.{NoComm, State}
use Rattle.comm_core.proofs.Keys.{same_text, text_itself}
use Rattle.comm_core.proofs.Gone.{none≢some}
use Rattle.comm_core.proofs.Staging.{none_of}
use Rattle.comm_core.proofs.Changes.{newer, some_pair, same_pair, none_opens}
use Rattle.comm_core.proofs.Stepping.{Comes, comes, comes_if, comes_of, comes_told, none_stepped}
use Rattle.comm_core.proofs.Running.{Steps, Runs, replay-append, legal_runs, runs_after, runs_before}
use Rattle.comm_core.proofs.LeftOpen.{neither, entry_keeps, entry_opens, open_since, left_open}
use Rattle.comm_core.proofs.Registering.{HasKind, target_left, entry_leaves, is_registered}

same_answer : (a b : Answer) → ◌≡◌ {A = Result Answer TargetFault} (Ok a) (Ok b) → a ≡ b
same_answer a b e = cc

no_answer : (f : TargetFault) (a : Answer) {P : Type 0} → ◌≡◌ {A = Result Answer TargetFault} (Err f) (Ok a) → P
no_answer f a e = cc

pub state_is : (a b : Answer) → ◌≡◌ {A = Result Answer TargetFault} (Ok a) (Ok b) → b.state ≡ a.state
state_is a b e = ap (λ (z : Answer). z.state) (sym (same_answer a b e))

-- ---- what a widget answers

updated_state : (echoing : Bool) (s : Members) (body : Content) (t : Option Tree) (a : Answer) → update_answer echoing t s body ≡ Ok a
    → a.state ≡ option_map (merged s) (told_state t body)
updated_state echoing s body None a h = state_is nothing a h
updated_state echoing s body (Some t) a h =
    (elim (state_of t body) as (λ r. answer_with (merge_answer echoing s) r ≡ Ok a → a.state ≡ option_map (merged s) (when_ok r)) [
      | Ok u ↦ λ l. state_is (merge_answer echoing s u) a l
      | Err f ↦ λ l. no_answer f a l
    ]) h

handed_state : (t : Option Tree) (bs : List (List ℕ)) → (custom_answer t bs).state ≡ None
handed_state None bs = refl
handed_state (Some t) bs = refl

abbrev Gave : Type 0
Gave = Result Answer TargetFault

custom_state : (t : Option Tree) (bs : List (List ℕ)) (a : Answer) (b : Bool)
    → ◌≡◌ {A = Gave} (cond {A = Gave} b (Ok (custom_answer t bs)) (Err UnknownMethod)) (Ok a) → a.state ≡ None
custom_state t bs a true h = state_is (custom_answer t bs) a h ∙ handed_state t bs
custom_state t bs a false h = no_answer UnknownMethod a h

other_state : (s : Members) (t : Option Tree) (bs : List (List ℕ)) (a : Answer) (b c : Bool)
    → ◌≡◌ {A = Gave} (cond {A = Gave} b (Ok (one_message (update_of s))) (cond {A = Gave} c (Ok (custom_answer t bs)) (Err UnknownMethod))) (Ok a) → a.state ≡ None
other_state s t bs a true c h = state_is (one_message (update_of s)) a h
other_state s t bs a false c h = custom_state t bs a c h

method_state : (echoing : Bool) (s : Members) (body : Content) (now t : Option Tree) (a : Answer) (b c d : Bool)
    → ◌≡◌ {A = Gave} (cond {A = Gave} b (update_answer echoing now s body) (cond {A = Gave} c (Ok (one_message (update_of s))) (cond {A = Gave} d (Ok (custom_answer t body.buffers)) (Err UnknownMethod)))) (Ok a)
    → a.state ≡ option_map (merged s) (cond b (told_state now body) None)
method_state echoing s body now t a true c d h = updated_state echoing s body now a h
method_state echoing s body now t a false c d h = other_state s t body.buffers a c d h

told_by_state : (echoing : Bool) (s : Members) (body : Content) (method : List ℕ) (a : Answer) → method_answer echoing method s body ≡ Ok a
    → a.state ≡ option_map (merged s) (cond (bytes_eq method (codes "update")) (told_state (get (codes "state") body.content) body) None)
told_by_state echoing s body method a h =
    method_state echoing s body (get (codes "state") body.content) (get (codes "content") body.content) a (bytes_eq method (codes "update")) (bytes_eq method (codes "request_state")) (bytes_eq method (codes "custom")) h

told_update : (echoing : Bool) (s : Members) (body : Content) (method : Option Tree) (a : Answer) → message_answer echoing method s body ≡ Ok a
    → a.state ≡ option_map (merged s) (cond (is_update method) (told_state (get (codes "state") body.content) body) None)
told_update echoing s body (Some (text method)) a h = told_by_state echoing s body method a h
told_update echoing s body None a h = no_answer NoMethod a h
told_update echoing s body (Some t) a h = no_answer NoMethod a h

opened_state : (r : Result Members TargetFault) (a : Answer) → answer_with new_state r ≡ Ok a → (s : Members) × (when_ok r ≡ Some s) × (a.state ≡ Some s)
opened_state (Ok s) a h = (s, refl, state_is (new_state s) a h)
opened_state (Err f) a h = no_answer f a h

-- The answer of a target, by its kind.
pub answers_kind : (m : Machine) (q : TargetRequest) (a : Answer) (k : Kind) → HasKind m q.name k → Gives (at m.targets q.name) q (Ok a)
    → (notes : ℕ) × Answers k notes q.state q.event a
answers_kind m q a k h g =
    (h.0.notes, subst (λ z. Answers z h.0.notes q.state q.event a) h.2 (subst (λ t. Gives t q (Ok a)) h.1 g))

-- ---- a widget's comm

-- The name is that of a target of widgets.
abbrev HasWidget : Machine → Name → Type 0
HasWidget m target = (k : Kind) × (is_widget k ≡ true) × HasKind m target k

-- The answer is one of a widget that echoes, or of one that doesn't.
abbrev Tells : Option Members → Event → Answer → Type 0
Tells now e a = (echoing : Bool) × (widget.answer_of echoing (unwrap_or now no_members) e ≡ Ok a)

tells : (k : Kind) (notes : ℕ) (now : Option Members) (e : Event) (a : Answer) → is_widget k ≡ true → Answers k notes now e a → Tells now e a
tells Widget notes now e a h w = (false, w)
tells WidgetEcho notes now e a h w = (true, w)
tells Echo notes now e a h w = absurd (true≢false (sym h))
tells Counter notes now e a h w = absurd (true≢false (sym h))
tells Plain notes now e a h w = absurd (true≢false (sym h))
tells Opaque notes now e a h w = absurd (true≢false (sym h))
tells Free notes now e a h w = absurd (true≢false (sym h))

pub same_comm : (x y : Comm) → Some x ≡ Some y → x ≡ y
same_comm x y e = cc

-- The state that the answer gives the comm is the merge of what the call tells it.
abbrev Merges : Call → Machine → Option Outcome → Reply → Machine → Type 0
Merges call m o r n = (id target : Name) (s : Members) → at m.comms id ≡ Some (record { target = target; state = Some s }) → HasWidget m target → given id call o ≡ option_map (merged s) (update id call r)

pub new_merges : (m : Machine) (opened : Name) (state : Option Members) → at m.comms opened ≡ None → (id : Name) (y : Comm) → at m.comms id ≡ Some y
    → cond (bytes_eq id opened) state None ≡ None
new_merges m opened state new id y there =
    (elim (bytes_eq id opened) as (λ b. bytes_eq id opened ≡ b → cond b state None ≡ None) [
      | true ↦ λ p. absurd (none≢some y (sym new ∙ sym (ap (at m.comms) (same_text id opened p)) ∙ there))
      | false ↦ λ _. refl
    ]) refl

-- an answer about a comm, where the call is for that comm
abbrev Answered : Machine → Comm → Event → Answer → Type 0
Answered m x e a = Gives (at m.targets x.target) (record { name = x.target; state = x.state; event = e }) (Ok a)

widget_answers : (m : Machine) (x : Comm) (e : Event) (a : Answer) (target : Name) (s : Members) → x ≡ record { target = target; state = Some s }
    → HasWidget m target → Answered m x e a
    → Tells (Some s) e a
widget_answers m x e a target s is kind g =
    let w = answers_kind m (record { name = target; state = Some s; event = e }) a kind.0 kind.2 (subst (λ z. Answered m z e a) is g) in
    tells kind.0 w.0 (Some s) e a kind.1 w.1

told_merges : (m : Machine) (told : Name) (x : Comm) (e : Event) (a : Answer) (u : Members → Option Members) → at m.comms told ≡ Some x → Answered m x e a
    → ((s : Members) → Tells (Some s) e a → a.state ≡ option_map (merged s) (u s))
    → (id target : Name) (s : Members) → at m.comms id ≡ Some (record { target = target; state = Some s }) → HasWidget m target
    → cond (bytes_eq id told) a.state None ≡ option_map (merged s) (cond (bytes_eq id told) (u s) None)
told_merges m told x e a u there g says id target s here kind =
    (elim (bytes_eq id told) as (λ b. bytes_eq id told ≡ b → cond b a.state None ≡ option_map (merged s) (cond b (u s) None)) [
      | true ↦ λ p.
          let is : x ≡ record { target = target; state = Some s } = same_comm x _ (sym there ∙ sym (ap (at m.comms) (same_text id told p)) ∙ here) in
          says s (widget_answers m x e a target s is kind g)
      | false ↦ λ _. refl
    ]) refl

judged_merges : (limit : ℕ) (m : Machine) (call : Call) → Comes (Merges call m) m (judged limit m call)
judged_merges limit m (Register name kind notes) = comes_if (Merges (Register name kind notes) m) m (has m.targets name) _ _ (λ _ _ _ _ _ _. refl) (λ _ _ _ _ _ _. refl)
judged_merges limit m (Open id target version body) =
    let M = Merges (Open id target version body) m in
    comes_if M m (has m.comms id) _ _ (λ _ _ _ _ _ _. refl)
    (λ new. comes_if M m (not (has m.targets target)) _ _ (λ _ _ _ _ _ _. refl)
    (λ _. comes_if M m (is_full limit m) _ _ (λ _ _ _ _ _ _. refl)
    (λ _. ((λ a g i t s h k. new_merges m id a.state (none_of (at m.comms id) new) i (record { target = t; state = Some s }) h), (λ f s e. comes_told M m f _ s (λ _ _ _ _ _. refl) e)))))
judged_merges limit m (Msg id body) =
    let M = Merges (Msg id body) m in
    comes_of M m (at m.comms id) _ (λ _ _ _ _ _. refl)
    (λ x there. (
      (λ a g i t s h k. told_merges m id x (event.Msg id body) a (λ _. update_in body) there g (λ z w. told_update w.0 z body (get (codes "method") body.content) a w.1) i t s h k),
      (λ f s e. comes_told M m f _ s (λ _ _ _ _ _. refl) e),
    ))
judged_merges limit m (Close id) = comes_of (Merges (Close id) m) m (at m.comms id) _ (λ _ _ _ _ _. refl) (λ x there _ _ _ _ _. refl)
judged_merges limit m (Unregister name) = comes_if (Merges (Unregister name) m) m (has m.targets name) _ _ (λ _ _ _ _ _ _. refl) (λ _ _ _ _ _ _. refl)
judged_merges limit m (Launch uuid target state) =
    let M = Merges (Launch uuid target state) m in
    comes_if M m (has m.comms (comm_id uuid)) _ _ (λ _ _ _ _ _ _. refl)
    (λ new. comes_if M m (not (has m.targets target)) _ _ (λ _ _ _ _ _ _. refl)
    (λ _. comes_if M m (not (holds_widget (at m.targets target))) _ _ (λ _ _ _ _ _ _. refl)
    (λ _. comes_if M m (is_full limit m) _ _ (λ _ _ _ _ _ _. refl)
    (λ _. ((λ a g i t s h k. new_merges m (comm_id uuid) a.state (none_of (at m.comms (comm_id uuid)) new) i (record { target = t; state = Some s }) h), (λ f s e. none_stepped s e))))))
judged_merges limit m (Push id state) =
    let M = Merges (Push id state) m in
    comes_of M m (at m.comms id) _ (λ _ _ _ _ _. refl)
    (λ x there. comes_if M m (holds_widget (at m.targets x.target)) _ _
    (λ _. ((λ a g i t s h k. told_merges m id x (event.Push id state) a (λ _. Some state) there g (λ z w. state_is _ a w.1) i t s h k), (λ f s e. none_stepped s e)))
    (λ _ _ _ _ _ _. refl))
judged_merges limit m (Send id body) = comes_of (Merges (Send id body) m) m (at m.comms id) _ (λ _ _ _ _ _. refl) (λ x there _ _ _ _ _. refl)
judged_merges limit m (HangUp id) = comes_of (Merges (HangUp id) m) m (at m.comms id) _ (λ _ _ _ _ _. refl) (λ x there _ _ _ _ _. refl)

-- The state that a widget's comm is opened with.
abbrev OpensTold : Call → Machine → Option Outcome → Reply → Machine → Type 0
OpensTold call m o r n = (id target : Name) → opening call r ≡ some_pair id target → HasWidget m target → (s : Members) × (opening_state call ≡ Some s) × (given id call o ≡ Some s)

opens_told : (m : Machine) (call : Call) (e : Event) (opened name : Name) (a : Answer) (told : Option Members)
    → Gives (at m.targets name) (record { name = name; state = None; event = e }) (Ok a)
    → (Tells None e a → (s : Members) × (told ≡ Some s) × (a.state ≡ Some s))
    → (id target : Name) → some_pair opened name ≡ some_pair id target → HasWidget m target
    → (s : Members) × (told ≡ Some s) × (cond (bytes_eq id opened) a.state None ≡ Some s)
opens_told m call e opened name a told g says id target h kind =
    let same = same_pair opened name id target h in
    let w = answers_kind m (record { name = name; state = None; event = e }) a kind.0 (subst (λ z. HasKind m z kind.0) (sym same.1) kind.2) g in
    let k = says (tells kind.0 w.0 None e a kind.1 w.1) in
    (k.0, k.1, subst (λ z. cond (bytes_eq z opened) a.state None ≡ Some k.0) same.0 (rw (text_itself opened) k.2))

judged_opens : (limit : ℕ) (m : Machine) (call : Call) → Comes (OpensTold call m) m (judged limit m call)
judged_opens limit m (Register name kind notes) = comes_if (OpensTold (Register name kind notes) m) m (has m.targets name) _ _ (λ _ i t h k. none_opens i t h) (λ _ i t h k. none_opens i t h)
judged_opens limit m (Open id target version body) =
    let O = OpensTold (Open id target version body) m in
    comes_if O m (has m.comms id) _ _ (λ _ i t h k. none_opens i t h)
    (λ _. comes_if O m (not (has m.targets target)) _ _ (λ _ i t h k. none_opens i t h)
    (λ _. comes_if O m (is_full limit m) _ _ (λ _ i t h k. none_opens i t h)
    (λ _. (
      (λ a g i t h k. opens_told m (Open id target version body) (event.Open id version body) id target a (when_ok (widget.opening_state version body)) g (λ w. opened_state (widget.opening_state version body) a w.1) i t h k),
      (λ f s e. comes_told O m f _ s (λ i t h k. none_opens i t h) e),
    ))))
judged_opens limit m (Msg id body) =
    let O = OpensTold (Msg id body) m in
    comes_of O m (at m.comms id) _ (λ i t h k. none_opens i t h) (λ x there. ((λ a g i t h k. none_opens i t h), (λ f s e. comes_told O m f _ s (λ i t h k. none_opens i t h) e)))
judged_opens limit m (Close id) = comes_of (OpensTold (Close id) m) m (at m.comms id) _ (λ i t h k. none_opens i t h) (λ x there i t h k. none_opens i t h)
judged_opens limit m (Unregister name) = comes_if (OpensTold (Unregister name) m) m (has m.targets name) _ _ (λ _ i t h k. none_opens i t h) (λ _ i t h k. none_opens i t h)
judged_opens limit m (Launch uuid target state) =
    let O = OpensTold (Launch uuid target state) m in
    comes_if O m (has m.comms (comm_id uuid)) _ _ (λ _ i t h k. none_opens i t h)
    (λ _. comes_if O m (not (has m.targets target)) _ _ (λ _ i t h k. none_opens i t h)
    (λ _. comes_if O m (not (holds_widget (at m.targets target))) _ _ (λ _ i t h k. none_opens i t h)
    (λ _. comes_if O m (is_full limit m) _ _ (λ _ i t h k. none_opens i t h)
    (λ _. (
      (λ a g i t h k. opens_told m (Launch uuid target state) (event.Launch (comm_id uuid) state) (comm_id uuid) target a (Some state) g (λ w. (state, refl, state_is (new_state state) a w.1)) i t h k),
      (λ f s e. none_stepped s e),
    )))))
judged_opens limit m (Push id state) =
    let O = OpensTold (Push id state) m in
    comes_of O m (at m.comms id) _ (λ i t h k. none_opens i t h)
    (λ x there. comes_if O m (holds_widget (at m.targets x.target)) _ _ (λ _. ((λ a g i t h k. none_opens i t h), (λ f s e. none_stepped s e))) (λ _ i t h k. none_opens i t h))
judged_opens limit m (Send id body) = comes_of (OpensTold (Send id body) m) m (at m.comms id) _ (λ i t h k. none_opens i t h) (λ x there i t h k. none_opens i t h)
judged_opens limit m (HangUp id) = comes_of (OpensTold (HangUp id) m) m (at m.comms id) _ (λ i t h k. none_opens i t h) (λ x there i t h k. none_opens i t h)

-- ---- through a run

-- the state after an update, if there is one
abbrev merged_with : Members → Option Members → Members
merged_with s None = s
merged_with s (Some u) = merged s u

newer-merged : (s : Members) (u : Option Members) → newer (option_map (merged s) u) (Some s) ≡ Some (merged_with s u)
newer-merged s None = refl
newer-merged s (Some u) = refl

fold-merged : (s : Members) (u : Option Members) (us : List Members) → fold merged (merged_with s u) us ≡ fold merged s (cons_option u us)
fold-merged s None us = refl
fold-merged s (Some u) us = refl

module _ (limit : ℕ) where
  entry_merges : (m : Machine) (e : Entry) (id target : Name) (s : Members) → Steps limit m e
      → at m.comms id ≡ Some (record { target = target; state = Some s }) → HasWidget m target → has_ended id target e ≡ false
      → at (applied limit m e).comms id ≡ Some (record { target = target; state = Some (merged_with s (update_by id e)) })
  entry_merges m End id target s r there kind going = absurd (true≢false going)
  entry_merges m (Change client number call outcome reply outgoing) id target s r there kind going =
      let merges = comes (Merges call m) m (judged limit m call) outcome _ (judged_merges limit m call) r.0 r.1 id target s there kind in
      entry_keeps limit m (Change client number call outcome reply outgoing) id (record { target = target; state = Some s }) r there going
      ∙ ap (λ o. Some (record { target = target; state = o })) (ap (λ o. newer o (Some s)) merges ∙ newer-merged s (update id call reply))

  run_merges : (m : Machine) (es : List Entry) (id target : Name) (s : Members) → Runs limit m es
      → at m.comms id ≡ Some (record { target = target; state = Some s }) → HasWidget m target → list_any (has_ended id target) es ≡ false
      → at (replay_from limit m es).comms id ≡ Some (record { target = target; state = Some (fold merged s (updates id es)) })
  run_merges m [] id target s r there kind going = there
  run_merges m (e ∷ es) id target s r there kind going =
      let parts = neither (has_ended id target e) (list_any (has_ended id target) es) going in
      run_merges (applied limit m e) es id target (merged_with s (update_by id e)) r.1 (entry_merges m e id target s r.0 there kind parts.0) (kind.0, kind.1, entry_leaves limit m e target kind.0 r.0 kind.2 (target_left e id target parts.0)) parts.1
      ∙ ap (λ z. Some (record { target = target; state = Some z })) (fold-merged s (update_by id e) (updates id es))

  entry_opening : (m : Machine) (e : Entry) (id target : Name) → Steps limit m e → HasOpened e id target → HasWidget m target
      → (s : Members) × OpensWith e s × (given_by id e ≡ Some s)
  entry_opening m End id target r h kind = absurd h
  entry_opening m (Change client number call outcome reply outgoing) id target r h kind =
      comes (OpensTold call m) m (judged limit m call) outcome _ (judged_opens limit m call) r.0 r.1 id target h kind

  -- The run from the opener on, and what stood before it.
  pub after_opener : (clients : ℕ) (h before : List Entry) (opener : Entry) (after : List Entry) (id target : Name) → IsLegal clients limit h
      → IsOpenSince h before opener after id target
      → Runs limit empty before × Runs limit (replay limit before) (opener ∷ after)
  after_opener clients h before opener after id target p since =
      let whole_run = subst (λ l. Runs limit empty l) since.parts (legal_runs limit clients h p) in
      (runs_before limit empty before (opener ∷ after) whole_run, runs_after limit empty before (opener ∷ after) whole_run)

  pub opener_leaves : (e : Entry) (m : Machine) (id target : Name) (k : Kind) → Steps limit m e → HasOpened e id target → HasKind m target k
      → HasKind (applied limit m e) target k
  opener_leaves End m id target k r h kind = absurd h
  opener_leaves (Change client number call outcome reply outgoing) m id target k r h kind =
      entry_leaves limit m (Change client number call outcome reply outgoing) target k r kind (opening_leaves call reply id target h)
    where
      opening_leaves : (c : Call) (r : Reply) (i t : Name) → opening c r ≡ some_pair i t → unregistering c r t ≡ false
      opening_leaves (Unregister name) r i t h = none_opens i t h
      opening_leaves (Register name kind notes) r i t h = none_opens i t h
      opening_leaves c r i t h = refl

  pub widget_state : (clients : ℕ) (h before : List Entry) (opener : Entry) (after : List Entry) (id target : Name) (k : Kind) → IsLegal clients limit h
      → IsOpenSince h before opener after id target → IsRegistered before target k → is_widget k ≡ true
      → (s : Members) × OpensWith opener s × (at (replay limit h).comms id ≡ Some (record { target = target; state = Some (fold merged s (updates id after)) }))
  widget_state clients h before opener after id target k p since is w =
      let runs = after_opener clients h before opener after id target p since in
      let m = replay limit before in
      let kind : HasWidget m target = (k, w, is_registered limit before target k runs.0 is) in
      let start = entry_opening m opener id target runs.1.0 since.opened kind in
      let there = entry_opens limit m opener id target runs.1.0 since.opened ∙ ap (λ o. Some (record { target = target; state = o })) start.2 in (
        start.0,
        start.1,
        ap (λ l. at (replay limit l).comms id) since.parts ∙ ap (λ (z : Machine). at z.comms id) (replay-append limit empty before (opener ∷ after))
            ∙ run_merges (applied limit m opener) after id target start.0 runs.1.1 there (k, w, opener_leaves opener m id target k runs.1.0 since.opened kind.2) since.lasts,
      )

pub given_last : (clients limit : ℕ) (h before : List Entry) (opener : Entry) (after : List Entry) (id target : Name) → IsLegal clients limit h
    → IsOpenSince h before opener after id target
    → state_read (replay limit h) id ≡ state_in (last_given id (opener ∷ after))
given_last clients limit h before opener after id target p since = ap state_at (open_since limit clients h before opener after id target p since)

pub none_given : (clients limit : ℕ) (h : List Entry) (id : Name) → IsLegal clients limit h → ((target : Name) → IsLeftOpen h id target → ⊥)
    → state_read (replay limit h) id ≡ NoComm
none_given clients limit h id p none =
    (elim (at (replay limit h).comms id) as (λ o. at (replay limit h).comms id ≡ o → state_at o ≡ NoComm) [
      | None ↦ λ _. refl
      | Some y ↦ λ there. absurd (none y.target (left_open limit clients h id y p there))
    ]) refl

pub updates_merged : (clients limit : ℕ) (h before : List Entry) (opener : Entry) (after : List Entry) (id target : Name) (k : Kind) → IsLegal clients limit h
    → IsOpenSince h before opener after id target → IsRegistered before target k → is_widget k ≡ true
    → (s : Members) × OpensWith opener s × (state_read (replay limit h) id ≡ State (fold merged s (updates id after)))
updates_merged clients limit h before opener after id target k p since is w =
    let s = widget_state limit clients h before opener after id target k p since is w in (s.0, s.1, ap state_at s.2)
