-- The row that an update of the table says is the one of the call.
use Rattle.std.proofs.Common.{◌≡◌, ℕ, Bool, true, false, not, cond, [], Option, None, Some, Ok, Err, option_map, refl, ap, sym, ◌∙◌, subst}
use Rattle.std.specs.Str.{bytes_eq}
use Rattle.comm_value.specs.Tree.{Members}
use Rattle.comm_targets.specs.Meaning.{Meaning}
use Rattle.comm_targets.specs.declared.staged_event.StagedEvent.{StagedEvent}
use Rattle.comm_targets.specs.declared.event.Event.{Event}
use Rattle.comm_targets.specs.declared.event.Event.TheVariants as event
use Rattle.comm_targets.specs.declared.answer.Answer.{Answer}
use Rattle.comm_targets.specs.declared.fault.TargetFault.{TargetFault}
use Rattle.comm_core.specs.Machine.{Name, Machine, at, has}
use Rattle.comm_core.specs.Step.{Outcome, Verdict, Done, AskTarget, Allowed, Gives, asks, judged, request_of, of_comm, is_full, holds_widget, comm_id}
use Rattle.comm_core.specs.Tables.{Targets, HaveStaged, registered_of, staged_as}
use Rattle.comm_core.specs.Plans.{staged_by}
use Rattle.comm_core.specs.Planned.{answered_row, done_row, updated_row}
use Rattle.comm_core.specs.Ready.{CoreValue, IsReady, Readied, machine}
use Rattle.comm_core.specs.Row.{row_in, told_row}
use Rattle.comm_core.specs.declared.comm.Comm.{Comm}
use Rattle.comm_core.specs.declared.target_request.TargetRequest.{TargetRequest}
use Rattle.comm_core.specs.declared.call.Call.{Call}
use Rattle.comm_core.specs.declared.call.Call.TheVariants.{Register, Open, Msg, Close, Unregister, Launch, Push, Send, HangUp}
use Rattle.comm_core.specs.declared.reply.Reply.{Reply}
use Rattle.comm_core.specs.declared.reply.Reply.TheVariants as reply
use Rattle.comm_core.specs.declared.table_update.TableUpdate.{TableUpdate}
use Rattle.comm_core.specs.declared.table_update.TableUpdate.TheVariants as table_update
use Rattle.comm_core.proofs.Keys.{same_text, text_itself}
use Rattle.comm_core.proofs.Entries.{lookup-map}
use Rattle.comm_core.proofs.Gone.{none≢some}

-- ---- where no answer is given

quiet : (m : Machine) (id : Name) (c : Option Comm) (f : TargetFault) → told_row id c (Some (Err f)) ≡ told_row id c None
quiet m id None f = refl
quiet m id (Some x) f = refl

silent : (m : Machine) (call : Call) (r : Reply) → row_in m call None r ≡ done_row call r
silent m (Register name kind notes) r = refl
silent m (Open id target version body) r = refl
silent m (Msg id body) r = elim (at m.comms id) as (λ c. told_row id c None ≡ done_row (Msg id body) r) [ None ↦ refl | Some x ↦ refl ]
silent m (Close id) r = refl
silent m (Unregister name) r = refl
silent m (Launch uuid target state) r = refl
silent m (Push id state) r = elim (at m.comms id) as (λ c. told_row id c None ≡ done_row (Push id state) r) [ None ↦ refl | Some x ↦ refl ]
silent m (Send id body) r = refl
silent m (HangUp id) r = refl

refused : (m : Machine) (call : Call) (f : TargetFault) (r : Reply) → row_in m call (Some (Err f)) r ≡ row_in m call None r
refused m (Register name kind notes) f r = refl
refused m (Open id target version body) f r = refl
refused m (Msg id body) f r = quiet m id (at m.comms id) f
refused m (Close id) f r = refl
refused m (Unregister name) f r = refl
refused m (Launch uuid target state) f r = refl
refused m (Push id state) f r = quiet m id (at m.comms id) f
refused m (Send id body) f r = refl
refused m (HangUp id) f r = refl

planned_silent : (p : TableUpdate) (call : Call) (r : Reply) → updated_row p None call r ≡ done_row call r
planned_silent table_update.Nothing call r = refl
planned_silent (table_update.Register name kind notes) call r = refl
planned_silent (table_update.Replace name kind notes) call r = refl
planned_silent (table_update.Unregister name) call r = refl
planned_silent (table_update.Close id place) call r = refl
planned_silent (table_update.Commit q) call r = refl

planned_refused : (p : TableUpdate) (f : TargetFault) (call : Call) (r : Reply) → updated_row p (Some (Err f)) call r ≡ done_row call r
planned_refused table_update.Nothing f call r = refl
planned_refused (table_update.Register name kind notes) f call r = refl
planned_refused (table_update.Replace name kind notes) f call r = refl
planned_refused (table_update.Unregister name) f call r = refl
planned_refused (table_update.Close id place) f call r = refl
planned_refused (table_update.Commit q) f call r = refl

-- ---- where a target answered

module _ (m : Machine) (q : TargetRequest) (a : Answer) (r : Reply) where
  -- the verdict asks this only where the call's row is that of the answer
  abbrev AsksOf : Call → Verdict → Type 0
  AsksOf call v = request_of v ≡ Some q → answered_row q.name q.event a ≡ row_in m call (Some (Ok a)) r

  asks_none : (X : Type 0) → ◌≡◌ {A = Option TargetRequest} None (Some q) → X
  asks_none X e = absurd (none≢some q e)

  asks_this : (target : Name) (state : Option Members) (e : Event) → ◌≡◌ {A = Option TargetRequest} (Some (record { name = target; state = state; event = e })) (Some q) → answered_row q.name q.event a ≡ answered_row target e a
  asks_this target state e is =
      let same : record { name = target; state = state; event = e } ≡ q = cc in ap (λ (g : TargetRequest). answered_row g.name g.event a) (sym same)

  asks_if : (call : Call) (b : Bool) (v w : Verdict) → AsksOf call v → AsksOf call w → AsksOf call (cond b v w)
  asks_if call true v w h k = h
  asks_if call false v w h k = k

  asks_msg : (id : Name) (body : _) (c : Option Comm) → request_of (of_comm m c (λ x. AskTarget (record { name = x.target; state = x.state; event = event.Msg id body }))) ≡ Some q
      → answered_row q.name q.event a ≡ told_row id c (Some (Ok a))
  asks_msg id body None e = asks_none _ e
  asks_msg id body (Some x) e = asks_this x.target x.state (event.Msg id body) e

  asks_push : (id : Name) (state : Members) (b : Comm → Bool) (c : Option Comm)
      → request_of (of_comm m c (λ x. cond (b x) (AskTarget (record { name = x.target; state = x.state; event = event.Push id state })) (Done reply.NotWidget [] m))) ≡ Some q
      → answered_row q.name q.event a ≡ told_row id c (Some (Ok a))
  asks_push id state b None e = asks_none _ e
  asks_push id state b (Some x) e =
      elim (b x) as (λ t. request_of (cond t (AskTarget (record { name = x.target; state = x.state; event = event.Push id state })) (Done reply.NotWidget [] m)) ≡ Some q → answered_row q.name q.event a ≡ told_row id (Some x) (Some (Ok a))) [
        | true ↦ λ e. asks_this x.target x.state (event.Push id state) e
        | false ↦ λ e. asks_none _ e
      ] e

  asks_comm : (X : Type 0) (c : Option Comm) (f : Comm → Verdict) → ((x : Comm) → request_of (f x) ≡ None) → request_of (of_comm m c f) ≡ Some q → X
  asks_comm X None f h e = asks_none X e
  asks_comm X (Some x) f h e = asks_none X (sym (h x) ∙ e)

  asked_row : (limit : ℕ) (call : Call) → AsksOf call (judged limit m call)
  asked_row limit (Register name kind notes) = asks_if (Register name kind notes) (has m.targets name) _ _ (asks_none _) (asks_none _)
  asked_row limit (Open id target version body) =
      let C = Open id target version body in
      asks_if C (has m.comms id) _ _ (asks_none _)
      (asks_if C (not (has m.targets target)) _ _ (asks_none _) (asks_if C (is_full limit m) _ _ (asks_none _) (asks_this target None (event.Open id version body))))
  asked_row limit (Msg id body) = asks_msg id body (at m.comms id)
  asked_row limit (Close id) = asks_comm _ (at m.comms id) _ (λ x. refl)
  asked_row limit (Unregister name) = asks_if (Unregister name) (has m.targets name) _ _ (asks_none _) (asks_none _)
  asked_row limit (Launch uuid target state) =
      let C = Launch uuid target state in
      asks_if C (has m.comms (comm_id uuid)) _ _ (asks_none _)
      (asks_if C (not (has m.targets target)) _ _ (asks_none _)
      (asks_if C (not (holds_widget (at m.targets target))) _ _ (asks_none _)
      (asks_if C (is_full limit m) _ _ (asks_none _) (asks_this target None (event.Launch (comm_id uuid) state)))))
  asked_row limit (Push id state) = asks_push id state (λ x. holds_widget (at m.targets x.target)) (at m.comms id)
  asked_row limit (Send id body) = asks_comm _ (at m.comms id) _ (λ x. refl)
  asked_row limit (HangUp id) = asks_comm _ (at m.comms id) _ (λ x. refl)

-- ---- what stands staged tells the update of the table

abbrev staged_event : Event → Answer → Option StagedEvent
staged_event e a = Some (record { event = e; answer = a })

-- where an answer to this question stands staged, the update of the table is to commit it
planned_asked : (targets : Targets) (q : TargetRequest) (a : Answer) (p : TableUpdate) (call : Call) (r : Reply) (m : Meaning) → at targets q.name ≡ Some m
    → HaveStaged targets (staged_as (Some (Ok a)) (Some q)) → HaveStaged targets (staged_by p (Some (Ok a))) → updated_row p (Some (Ok a)) call r ≡ answered_row q.name q.event a
planned_asked targets q a p call r m there asked by =
    let staged : m.staged ≡ staged_event q.event a = asked q.name m there ∙ ap (λ b. cond b (staged_event q.event a) None) (text_itself q.name) in
    planned_by p (sym (by q.name m there) ∙ staged)
  where
    planned_by : (p : TableUpdate) → staged_by p (Some (Ok a)) q.name ≡ staged_event q.event a → updated_row p (Some (Ok a)) call r ≡ answered_row q.name q.event a
    planned_by table_update.Nothing e = absurd (none≢some _ e)
    planned_by (table_update.Register name kind notes) e = absurd (none≢some _ e)
    planned_by (table_update.Replace name kind notes) e = absurd (none≢some _ e)
    planned_by (table_update.Unregister name) e = absurd (none≢some _ e)
    planned_by (table_update.Close id place) e = absurd (none≢some _ e)
    planned_by (table_update.Commit g) e =
        (elim (bytes_eq q.name g.name) as (λ b. bytes_eq q.name g.name ≡ b → cond b (staged_event g.event a) None ≡ staged_event q.event a → answered_row g.name g.event a ≡ answered_row q.name q.event a) [
          | true ↦ λ is l.
              let whole : ◌≡◌ {A = StagedEvent} (record { event = g.event; answer = a }) (record { event = q.event; answer = a }) = cc in
              let event_is : g.event ≡ q.event = ap (λ (x : StagedEvent). x.event) whole in
              ap (λ n. answered_row n g.event a) (sym (same_text q.name g.name is)) ∙ ap (λ x. answered_row q.name x a) event_is
          | false ↦ λ _ l. absurd (none≢some _ l)
        ]) refl e

-- with the question or without
planned_so : (s : CoreValue) (p : TableUpdate) (call : Call) (r : Reply) (asked : Option TargetRequest) (o : Option Outcome) → asks s.limit (machine s) call ≡ asked → Allowed (machine s) asked o
    → HaveStaged s.targets (staged_as o asked) → HaveStaged s.targets (staged_by p o) → updated_row p o call r ≡ row_in (machine s) call o r
planned_so s p call r None None e allowed staged by = planned_silent p call r ∙ sym (silent (machine s) call r)
planned_so s p call r None (Some o) e allowed staged by = absurd allowed
planned_so s p call r (Some q) None e allowed staged by = absurd allowed
planned_so s p call r (Some q) (Some (Err f)) e allowed staged by = planned_refused p f call r ∙ sym (refused (machine s) call f r ∙ silent (machine s) call r)
planned_so s p call r (Some q) (Some (Ok a)) e allowed staged by =
    (elim (at s.targets q.name) as (λ o. at s.targets q.name ≡ o → updated_row p (Some (Ok a)) call r ≡ row_in (machine s) call (Some (Ok a)) r) [
      | None ↦ λ none. absurd (subst (λ g. Gives g q (Ok a)) (lookup-map (λ k. k) registered_of (bytes_eq q.name) s.targets ∙ ap (option_map registered_of) none) allowed)
      | Some m ↦ λ there. planned_asked s.targets q a p call r m there staged by ∙ asked_row (machine s) q a r s.limit call e
    ]) refl

pub planned_is : (s : CoreValue) (r : Readied) → IsReady s r → updated_row r.table_update r.outcome r.call r.reply ≡ row_in (machine s) r.call r.outcome r.reply
planned_is s r h = planned_so s r.table_update r.call r.reply (asks s.limit (machine s) r.call) r.outcome refl h.allowed h.staged h.stages
