-- A run in which no decimal comes in, step by step.
use Rattle.std.proofs.Common.{◌≡◌, ℕ, Bool, true, false, not, cond, List, [], ◌∷◌, ◌++◌, map, Option, None, Some, Ok, Err, refl, subst}
use Rattle.std.specs.Str.{bytes_eq}
use Rattle.std.specs.List.{AllByRecursion}
use Rattle.comm_value.specs.Tree.{Members}
use Rattle.comm_value.specs.Places.{member_paths}
use Rattle.comm_messages.specs.Content.{Content}
use Rattle.comm_messages.specs.declared.outgoing.Outgoing.{Outgoing}
use Rattle.comm_messages.specs.declared.outgoing.Outgoing.TheVariants as out
use Rattle.comm_targets.specs.declared.event.Event.{Event}
use Rattle.comm_targets.specs.declared.event.Event.TheVariants as event
use Rattle.comm_targets.specs.declared.answer.Answer.{Answer}
use Rattle.comm_targets.specs.declared.fault.TargetFault.{TargetFault}
use Rattle.comm_core.specs.Machine.{Name, Registered, Machine, empty, at, has, with_at, without, ids_of, others}
use Rattle.comm_core.specs.Step.{Outcome, Stepped, Verdict, Done, AskTarget, judged, request_of, stepped, answer_step, refusal_step, messages_of, stated, of_comm, is_full, holds_widget, comm_id}
use Rattle.comm_core.specs.Exact.{is_exact, outcome_by, outcome_at}
use Rattle.comm_core.specs.History.{applied, replay_from, replay, IsLegal}
use Rattle.comm_core.specs.Integers.{BringsNoDecimal, AsksForIntegers, HasIntegersAlone, SendsIntegers, HoldsIntegers}
use Rattle.comm_core.specs.declared.comm.Comm.{Comm}
use Rattle.comm_core.specs.declared.entry.Entry.{Entry}
use Rattle.comm_core.specs.declared.entry.Entry.TheVariants.{Change, End}
use Rattle.comm_core.specs.declared.target_request.TargetRequest.{TargetRequest}
use Rattle.comm_core.specs.declared.call.Call.{Call}
use Rattle.comm_core.specs.declared.call.Call.TheVariants.{Register, Open, Msg, Close, Unregister, Launch, Push, Send, HangUp}
use Rattle.comm_core.proofs.Exacting.{no_choice, step_keeps}
use Rattle.comm_core.proofs.Running.{Runs, legal_runs}
use Rattle.comm_core.proofs.Stepping.{some_same, none_stepped}
use Rattle.comm_core.proofs.NoDecimals.{plain_members_so, paths_so}
use Rattle.comm_core.proofs.Integers.{StateIsSo, BodiesAreSo, AnswerIsSo, EventIsSo, answered_so}

-- ---- the comms

abbrev CommsAreSo : List (Name × Comm) → Type 0
CommsAreSo = AllByRecursion (λ e. StateIsSo e.1.state)

so_at : (es : List (Name × Comm)) (id : Name) (c : Comm) → CommsAreSo es → at es id ≡ Some c → StateIsSo c.state
so_at [] id c h is = cc
so_at (e ∷ es) id c h is =
    let more = so_at es id c h.1 in
    (elim (bytes_eq id e.0) as (λ b. cond b (Some e.1) (at es id) ≡ Some c → StateIsSo c.state) [
      | true ↦ λ l. let same : e.1 ≡ c = cc in subst (λ (z : Comm). StateIsSo z.state) same h.0
      | false ↦ λ l. more l
    ]) is

so_append : (es : List (Name × Comm)) (e : Name × Comm) → CommsAreSo es → StateIsSo e.1.state → CommsAreSo (es ++ e ∷ [])
so_append [] e h s = (s, tt)
so_append (x ∷ es) e h s = (h.0, so_append es e h.1 s)

so_without : (es : List (Name × Comm)) (id : Name) → CommsAreSo es → CommsAreSo (without es id)
so_without [] id h = tt
so_without (e ∷ es) id h =
    let more = so_without es id h.1 in
    elim (bytes_eq id e.0) as (λ b. CommsAreSo (cond b es (e ∷ without es id))) [ true ↦ h.1 | false ↦ (h.0, more) ]

so_others : (name : Name) (es : List (Name × Comm)) → CommsAreSo es → CommsAreSo (others name es)
so_others name [] h = tt
so_others name (e ∷ es) h =
    let more = so_others name es h.1 in
    elim (not (bytes_eq name e.1.target)) as (λ b. CommsAreSo (cond b (e ∷ others name es) (others name es))) [ true ↦ (h.0, more) | false ↦ more ]

so_with_at : (es : List (Name × Comm)) (id : Name) (c : Comm) → CommsAreSo es → StateIsSo c.state → CommsAreSo (with_at es id c)
so_with_at [] id c h s = tt
so_with_at (e ∷ es) id c h s =
    let more = so_with_at es id c h.1 s in
    elim (bytes_eq id e.0) as (λ b. CommsAreSo (cond b ((e.0, c) ∷ es) (e ∷ with_at es id c))) [ true ↦ (s, h.1) | false ↦ (h.0, more) ]

so_stated : (es : List (Name × Comm)) (id target : Name) (s : Option Members) → CommsAreSo es → StateIsSo s → CommsAreSo (stated es id target s)
so_stated es id target None h s = h
so_stated es id target (Some u) h s = so_with_at es id _ h s

-- ---- what goes out

abbrev OutIsSo : List Outgoing → Type 0
OutIsSo = AllByRecursion HasIntegersAlone

so_closes : (ids : List Name) → OutIsSo (map out.Close ids)
so_closes [] = tt
so_closes (id ∷ ids) = (tt, so_closes ids)

so_messages : (id : Name) (bodies : List Content) → BodiesAreSo bodies → OutIsSo (messages_of id bodies)
so_messages id [] h = tt
so_messages id (c ∷ cs) h = (h.0, so_messages id cs h.1)

-- ---- a step

abbrev pub StepIsSo : List Outgoing → Machine → Type 0
StepIsSo out next = OutIsSo out × CommsAreSo next.comms

abbrev VerdictIsSo : Verdict → Type 0
VerdictIsSo (Done r out next) = StepIsSo out next
VerdictIsSo (AskTarget q) = EventIsSo q.event × StateIsSo q.state

so_if : (b : Bool) (v w : Verdict) → VerdictIsSo v → VerdictIsSo w → VerdictIsSo (cond b v w)
so_if true v w p q = p
so_if false v w p q = q

so_of : (m : Machine) (c : Option Comm) (f : Comm → Verdict) → CommsAreSo m.comms → ((x : Comm) → c ≡ Some x → VerdictIsSo (f x)) → VerdictIsSo (of_comm m c f)
so_of m None f h g = (tt, h)
so_of m (Some c) f h g = g c refl

judged_so : (limit : ℕ) (m : Machine) (c : Call) → BringsNoDecimal c → CommsAreSo m.comms → VerdictIsSo (judged limit m c)
judged_so limit m (Register name kind notes) b h =
    so_if (has m.targets name) _ _ (so_closes (ids_of name m.comms), so_others name m.comms h) (tt, h)
judged_so limit m (Open id target version body) b h =
    so_if (has m.comms id) _ _ (tt, h) (so_if (not (has m.targets target)) _ _ ((tt, tt), h) (so_if (is_full limit m) _ _ ((tt, tt), h) (b, tt)))
judged_so limit m (Msg id body) b h = so_of m (at m.comms id) _ h (λ x there. (b, so_at m.comms id x h there))
judged_so limit m (Close id) b h = so_of m (at m.comms id) _ h (λ x there. (tt, so_without m.comms id h))
judged_so limit m (Unregister name) b h =
    so_if (has m.targets name) _ _ (so_closes (ids_of name m.comms), so_others name m.comms h) (tt, h)
judged_so limit m (Launch uuid target state) b h =
    so_if (has m.comms (comm_id uuid)) _ _ (tt, h) (so_if (not (has m.targets target)) _ _ (tt, h)
    (so_if (not (holds_widget (at m.targets target))) _ _ (tt, h) (so_if (is_full limit m) _ _ (tt, h) (b, tt))))
judged_so limit m (Push id state) b h =
    so_of m (at m.comms id) _ h (λ x there. so_if (holds_widget (at m.targets x.target)) _ _ (b, so_at m.comms id x h there) (tt, h))
judged_so limit m (Send id body) b h = so_of m (at m.comms id) _ h (λ x there. ((b, tt), h))
judged_so limit m (HangUp id) b h = so_of m (at m.comms id) _ h (λ x there. ((tt, tt), so_without m.comms id h))

answer_step_so : (m : Machine) (name : Name) (e : Event) (a : Answer) → EventIsSo e → AnswerIsSo a → CommsAreSo m.comms
    → StepIsSo (answer_step m name e a).outgoing (answer_step m name e a).next
answer_step_so m name (event.Open id version body) a b w h = (so_messages id a.messages w.1, so_append m.comms _ h w.0)
answer_step_so m name (event.Msg id body) a b w h = (so_messages id a.messages w.1, so_stated m.comms id name a.state h w.0)
answer_step_so m name (event.Launch id state) a b w h =
    (((paths_so (member_paths state), (plain_members_so state b, tt)), tt), so_append m.comms _ h w.0)
answer_step_so m name (event.Push id state) a b w h = (so_messages id a.messages w.1, so_stated m.comms id name a.state h w.0)

is_stepped : (x s : Stepped) → Some x ≡ Some s → StepIsSo x.outgoing x.next → StepIsSo s.outgoing s.next
is_stepped x s e h = subst (λ (z : Stepped). StepIsSo z.outgoing z.next) (some_same x s e) h

refused_so : (m : Machine) (e : Event) (f : TargetFault) (s : Stepped) → CommsAreSo m.comms → refusal_step m e f ≡ Some s → StepIsSo s.outgoing s.next
refused_so m (event.Open id version body) f s h e = is_stepped _ s e ((tt, tt), h)
refused_so m (event.Msg id body) f s h e = is_stepped _ s e (tt, h)
refused_so m (event.Launch id state) f s h e = none_stepped s e
refused_so m (event.Push id state) f s h e = none_stepped s e

no_outcome : (o : Outcome) {P : Type 0} → ◌≡◌ {A = Option Outcome} (Some o) None → P
no_outcome o e = cc

same_outcome : (o p : Outcome) → ◌≡◌ {A = Option Outcome} (Some o) (Some p) → p ≡ o
same_outcome o p e = cc

outcome_so : (t : Option Registered) (q : TargetRequest) (a : Answer) → VerdictIsSo (AskTarget q) → Some (Ok a) ≡ outcome_by t q → AnswerIsSo a
outcome_so None q a w is = no_outcome _ is
outcome_so (Some r) q a w is = answered_so r.kind r.notes q.state q.event a w.0 w.1 (same_outcome _ _ is)

stepped_so : (m : Machine) (v : Verdict) (o : Option Outcome) (s : Stepped) → CommsAreSo m.comms → VerdictIsSo v → o ≡ outcome_at m (request_of v)
    → stepped m v o ≡ Some s → StepIsSo s.outgoing s.next
stepped_so m (Done r out next) None s h w is e = is_stepped _ s e w
stepped_so m (Done r out next) (Some g) s h w is e = none_stepped s e
stepped_so m (AskTarget q) (Some (Ok a)) s h w is e =
    is_stepped _ s e (answer_step_so m q.name q.event a w.0 (outcome_so (at m.targets q.name) q a w is) h)
stepped_so m (AskTarget q) (Some (Err f)) s h w is e = refused_so m q.event f s h e
stepped_so m (AskTarget q) None s h w is e = none_stepped s e

-- ---- a run

module _ (limit : ℕ) where
  run_so : (m : Machine) (es : List Entry) → is_exact m ≡ true → CommsAreSo m.comms → Runs limit m es → AllByRecursion AsksForIntegers es
      → AllByRecursion SendsIntegers es × CommsAreSo (replay_from limit m es).comms
  run_so m [] exact h r all = (tt, h)
  run_so m (End ∷ es) exact h r all = let more = run_so empty es refl tt r.1 all.1 in ((tt, more.0), more.1)
  run_so m (Change client number call outcome reply outgoing ∷ es) exact h r all =
      let outcome_is = no_choice limit m call outcome exact r.0.0 in
      let done = stepped_so m (judged limit m call) outcome _ h (judged_so limit m call all.0.0 h) outcome_is r.0.1 in
      let still = step_keeps limit m call outcome _ exact all.0.1 r.0.1 in
      let more = run_so (applied limit m (Change client number call outcome reply outgoing)) es still done.1 r.1 all.1 in
      ((done.0, more.0), more.1)

  pub sends_integers : (clients : ℕ) (h : List Entry) → IsLegal clients limit h → AllByRecursion AsksForIntegers h → AllByRecursion SendsIntegers h
  sends_integers clients h p all = (run_so empty h refl tt (legal_runs limit clients h p) all).0

  pub holds_integers : (clients : ℕ) (h : List Entry) → IsLegal clients limit h → AllByRecursion AsksForIntegers h → HoldsIntegers (replay limit h)
  holds_integers clients h p all id c there = so_at (replay limit h).comms id c (run_so empty h refl tt (legal_runs limit clients h p) all).1 there
