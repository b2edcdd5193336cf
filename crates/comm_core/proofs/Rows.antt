-- What an entry changes in what readers see.
use Rattle.std.proofs.Common.{◌≡◌, ℕ, not, List, [], ◌∷◌, ◌++◌, Option, None, Some, Ok, Err, refl, ap, sym, ◌∙◌}
use Rattle.comm_value.specs.Tree.{Members}
use Rattle.comm_targets.specs.declared.answer.Answer.{Answer}
use Rattle.comm_targets.specs.declared.fault.TargetFault.{TargetFault}
use Rattle.comm_targets.specs.declared.event.Event.TheVariants as event
use Rattle.comm_core.specs.Machine.{Name, Machine, at, has, without, ids_of, others, empty, AreDistinct}
use Rattle.comm_core.specs.Step.{Outcome, AskTarget, judged, stated, is_full, holds_widget, comm_id}
use Rattle.comm_core.specs.Reads.{in_order}
use Rattle.comm_core.specs.Row.{row_in, row_of, rows, stated_row, told_row, with_row, without_all}
use Rattle.comm_core.specs.declared.comm.Comm.{Comm}
use Rattle.comm_core.specs.declared.call.Call.{Call}
use Rattle.comm_core.specs.declared.call.Call.TheVariants.{Register, Open, Msg, Close, Unregister, Launch, Push, Send, HangUp}
use Rattle.comm_core.specs.declared.reply.Reply.{Reply}
use Rattle.comm_core.specs.declared.entry.Entry.{Entry}
use Rattle.comm_core.specs.declared.entry.Entry.TheVariants.{Change, End}
use Rattle.comm_core.specs.History.{applied, replay, IsLegal}
use Rattle.comm_core.proofs.Stepping.{Comes, comes, comes_if, comes_of, comes_told, none_stepped}
use Rattle.comm_core.proofs.Running.{Steps, replay-append, legal_runs, runs_after, runs_before, distinct_runs}
use Rattle.comm_core.proofs.Ordered.{in_order-snoc, in_order-with_at, in_order-without, in_order-without_all, others-without_all}

-- ---- one step

-- the call's row makes what readers see of the one machine what they see of the other
abbrev pub Leaves : Call → Machine → Option Outcome → Reply → Machine → Type 0
Leaves call m o r n = with_row (row_in m call o r) (rows m) ≡ rows n

module _ (m : Machine) (d : AreDistinct m.comms) where
  -- a comm without an answer, or whose target gave a fault
  quiet : (id : Name) (c : Option Comm) (f : TargetFault) → with_row (told_row id c (Some (Err f))) (rows m) ≡ rows m
  quiet id None f = refl
  quiet id (Some x) f = refl

  silent : (id : Name) (c : Option Comm) → with_row (told_row id c None) (rows m) ≡ rows m
  silent id None = refl
  silent id (Some x) = refl

  stated_leaves : (id : Name) (x : Comm) (s : Option Members) → at m.comms id ≡ Some x → with_row (stated_row id x.target s) (rows m) ≡ in_order (stated m.comms id x.target s)
  stated_leaves id x None there = refl
  stated_leaves id x (Some s) there = in_order-with_at m.comms id x (record { target = x.target; state = Some s }) d there

  told_leaves : (id : Name) (x : Comm) (a : Answer) → at m.comms id ≡ Some x → with_row (told_row id (at m.comms id) (Some (Ok a))) (rows m) ≡ in_order (stated m.comms id x.target a.state)
  told_leaves id x a there = ap (λ c. with_row (told_row id c (Some (Ok a))) (rows m)) there ∙ stated_leaves id x a.state there

  closed_leaves : (id : Name) → without (rows m) id ≡ in_order (without m.comms id)
  closed_leaves id = in_order-without m.comms id d

  ended_leaves : (name : Name) → without_all (ids_of name m.comms) (rows m) ≡ in_order (others name m.comms)
  ended_leaves name = in_order-without_all (ids_of name m.comms) m.comms d ∙ ap in_order (others-without_all name m.comms d)

  leaves_open : (id target : Name) (version : Option Name) (body : _) → Comes (Leaves (Open id target version body) m) m (AskTarget (record { name = target; state = None; event = event.Open id version body }))
  leaves_open id target version body = (
    (λ a g. sym (in_order-snoc m.comms (id, record { target = target; state = a.state }))),
    (λ f s e. comes_told (Leaves (Open id target version body) m) m f _ s refl e),
  )

  leaves_launch : (uuid : List ℕ) (target : Name) (state : Members) → Comes (Leaves (Launch uuid target state) m) m (AskTarget (record { name = target; state = None; event = event.Launch (comm_id uuid) state }))
  leaves_launch uuid target state = ((λ a g. sym (in_order-snoc m.comms (comm_id uuid, record { target = target; state = a.state }))), (λ f s e. none_stepped s e))

  leaves_msg : (id : Name) (body : _) (x : Comm) → at m.comms id ≡ Some x → Comes (Leaves (Msg id body) m) m (AskTarget (record { name = x.target; state = x.state; event = event.Msg id body }))
  leaves_msg id body x there = ((λ a g. told_leaves id x a there), (λ f s e. comes_told (Leaves (Msg id body) m) m f _ s (quiet id (at m.comms id) f) e))

  leaves_push : (id : Name) (state : Members) (x : Comm) → at m.comms id ≡ Some x → Comes (Leaves (Push id state) m) m (AskTarget (record { name = x.target; state = x.state; event = event.Push id state }))
  leaves_push id state x there = ((λ a g. told_leaves id x a there), (λ f s e. none_stepped s e))

  judged_leaves : (limit : ℕ) (call : Call) → Comes (Leaves call m) m (judged limit m call)
  judged_leaves limit (Register name kind notes) = comes_if (Leaves (Register name kind notes) m) m (has m.targets name) _ _ (λ _. ended_leaves name) (λ _. refl)
  judged_leaves limit (Open id target version body) =
      let L = Leaves (Open id target version body) m in
      comes_if L m (has m.comms id) _ _ (λ _. refl)
      (λ _. comes_if L m (not (has m.targets target)) _ _ (λ _. refl) (λ _. comes_if L m (is_full limit m) _ _ (λ _. refl) (λ _. leaves_open id target version body)))
  judged_leaves limit (Msg id body) = comes_of (Leaves (Msg id body) m) m (at m.comms id) _ (silent id (at m.comms id)) (λ x there. leaves_msg id body x there)
  judged_leaves limit (Close id) = comes_of (Leaves (Close id) m) m (at m.comms id) _ refl (λ x there. closed_leaves id)
  judged_leaves limit (Unregister name) = comes_if (Leaves (Unregister name) m) m (has m.targets name) _ _ (λ _. ended_leaves name) (λ _. refl)
  judged_leaves limit (Launch uuid target state) =
      let L = Leaves (Launch uuid target state) m in
      comes_if L m (has m.comms (comm_id uuid)) _ _ (λ _. refl)
      (λ _. comes_if L m (not (has m.targets target)) _ _ (λ _. refl)
      (λ _. comes_if L m (not (holds_widget (at m.targets target))) _ _ (λ _. refl)
      (λ _. comes_if L m (is_full limit m) _ _ (λ _. refl) (λ _. leaves_launch uuid target state))))
  judged_leaves limit (Push id state) =
      comes_of (Leaves (Push id state) m) m (at m.comms id) _ (silent id (at m.comms id))
      (λ x there. comes_if (Leaves (Push id state) m) m (holds_widget (at m.targets x.target)) _ _ (λ _. leaves_push id state x there) (λ _. silent id (at m.comms id)))
  judged_leaves limit (Send id body) = comes_of (Leaves (Send id body) m) m (at m.comms id) _ refl (λ x there. refl)
  judged_leaves limit (HangUp id) = comes_of (Leaves (HangUp id) m) m (at m.comms id) _ refl (λ x there. closed_leaves id)

-- ---- in a legal history

entry_leaves : (comms : ℕ) (m : Machine) (e : Entry) → AreDistinct m.comms → Steps comms m e → with_row (row_of m e) (rows m) ≡ rows (applied comms m e)
entry_leaves comms m End d s = refl
entry_leaves comms m (Change client number call outcome reply outgoing) d s = comes (Leaves call m) m (judged comms m call) outcome _ (judged_leaves m d comms call) s.0 s.1

pub leaves : (clients comms : ℕ) (es : List Entry) (e : Entry) → IsLegal clients comms (es ++ e ∷ [])
    → with_row (row_of (replay comms es) e) (rows (replay comms es)) ≡ rows (replay comms (es ++ e ∷ []))
leaves clients comms es e p =
    let all = legal_runs comms clients (es ++ e ∷ []) p in
    let d : AreDistinct (replay comms es).comms = distinct_runs comms empty es (runs_before comms empty es (e ∷ []) all) tt in
    entry_leaves comms (replay comms es) e d (runs_after comms empty es (e ∷ []) all).0 ∙ ap rows (sym (replay-append comms empty es (e ∷ [])))
