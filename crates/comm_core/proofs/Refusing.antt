-- Calls that are refused.
use Rattle.std.proofs.Common.{◌≡◌, ℕ, Bool, true, false, not, cond, Option, None, Some, Ok, Err, refl, ap, sym, ◌∙◌, true≢false}
use Rattle.comm_targets.specs.declared.event.Event.{Event}
use Rattle.comm_targets.specs.declared.event.Event.TheVariants as event
use Rattle.comm_targets.specs.declared.answer.Answer.{Answer}
use Rattle.comm_targets.specs.declared.fault.TargetFault.{TargetFault}
use Rattle.comm_core.specs.Machine.{Name, Machine, at, has}
use Rattle.comm_core.specs.Step.{Outcome, Stepped, Verdict, Done, AskTarget, judged, step, stepped, answer_step, refusal_step, of_comm, is_done, is_full, holds_widget, comm_id}
use Rattle.comm_core.specs.declared.comm.Comm.{Comm}
use Rattle.comm_core.specs.declared.call.Call.{Call}
use Rattle.comm_core.specs.declared.call.Call.TheVariants.{Register, Open, Msg, Close, Unregister, Launch, Push, Send, HangUp}

abbrev Leaves : Machine → Verdict → Type 0
Leaves m (Done r out next) = is_done r ≡ false → next ≡ m
Leaves m (AskTarget q) = Unit {0}

done_not : {P : Type 0} → true ≡ false → P
done_not e = absurd (true≢false e)

leaves_if : (m : Machine) (b : Bool) (v w : Verdict) → Leaves m v → Leaves m w → Leaves m (cond b v w)
leaves_if m true v w p q = p
leaves_if m false v w p q = q

leaves_of : (m : Machine) (c : Option Comm) (f : Comm → Verdict) → ((x : Comm) → Leaves m (f x)) → Leaves m (of_comm m c f)
leaves_of m None f h = λ e. refl
leaves_of m (Some c) f h = h c

judged_leaves : (limit : ℕ) (m : Machine) (c : Call) → Leaves m (judged limit m c)
judged_leaves limit m (Register name kind notes) = leaves_if m (has m.targets name) _ _ (λ e. done_not e) (λ e. done_not e)
judged_leaves limit m (Open id target version body) =
    leaves_if m (has m.comms id) _ _ (λ e. refl) (leaves_if m (not (has m.targets target)) _ _ (λ e. refl) (leaves_if m (is_full limit m) _ _ (λ e. refl) tt))
judged_leaves limit m (Msg id body) = leaves_of m (at m.comms id) _ (λ x. tt)
judged_leaves limit m (Close id) = leaves_of m (at m.comms id) _ (λ x e. done_not e)
judged_leaves limit m (Unregister name) = leaves_if m (has m.targets name) _ _ (λ e. done_not e) (λ e. refl)
judged_leaves limit m (Launch uuid target state) =
    leaves_if m (has m.comms (comm_id uuid)) _ _ (λ e. refl) (leaves_if m (not (has m.targets target)) _ _ (λ e. refl)
    (leaves_if m (not (holds_widget (at m.targets target))) _ _ (λ e. refl) (leaves_if m (is_full limit m) _ _ (λ e. refl) tt)))
judged_leaves limit m (Push id state) = leaves_of m (at m.comms id) _ (λ x. leaves_if m (holds_widget (at m.targets x.target)) _ _ tt (λ e. refl))
judged_leaves limit m (Send id body) = leaves_of m (at m.comms id) _ (λ x e. refl)
judged_leaves limit m (HangUp id) = leaves_of m (at m.comms id) _ (λ x e. done_not e)

some_same : (x s : Stepped) → Some x ≡ Some s → x ≡ s
some_same x s e = cc

none_same : (s : Stepped) {P : Type 0} → ◌≡◌ {A = Option Stepped} None (Some s) → P
none_same s e = cc

reply_of : (x s : Stepped) → Some x ≡ Some s → is_done s.reply ≡ false → is_done x.reply ≡ false
reply_of x s e d = ap (λ (z : Stepped). is_done z.reply) (some_same x s e) ∙ d

next_of : (x s : Stepped) (m : Machine) → Some x ≡ Some s → x.next ≡ m → s.next ≡ m
next_of x s m e n = ap (λ (z : Stepped). z.next) (sym (some_same x s e)) ∙ n

answered_done : (m : Machine) (name : Name) (e : Event) (a : Answer) {P : Type 0} → is_done (answer_step m name e a).reply ≡ false → P
answered_done m name (event.Open id version body) a d = done_not d
answered_done m name (event.Msg id body) a d = done_not d
answered_done m name (event.Launch id state) a d = done_not d
answered_done m name (event.Push id state) a d = done_not d

refused_leaves : (m : Machine) (e : Event) (f : TargetFault) (s : Stepped) → refusal_step m e f ≡ Some s → s.next ≡ m
refused_leaves m (event.Open id version body) f s e = next_of _ s m e refl
refused_leaves m (event.Msg id body) f s e = next_of _ s m e refl
refused_leaves m (event.Launch id state) f s e = none_same s e
refused_leaves m (event.Push id state) f s e = none_same s e

stepped_leaves : (m : Machine) (v : Verdict) (o : Option Outcome) (s : Stepped) → Leaves m v → stepped m v o ≡ Some s → is_done s.reply ≡ false → s.next ≡ m
stepped_leaves m (Done r out next) None s k e d = next_of _ s m e (k (reply_of _ s e d))
stepped_leaves m (Done r out next) (Some g) s k e d = none_same s e
stepped_leaves m (AskTarget q) (Some (Ok a)) s k e d = answered_done m q.name q.event a (reply_of _ s e d)
stepped_leaves m (AskTarget q) (Some (Err f)) s k e d = refused_leaves m q.event f s e
stepped_leaves m (AskTarget q) None s k e d = none_same s e

pub refused_leaves_all : (limit : ℕ) (m : Machine) (c : Call) (o : Option Outcome) (s : Stepped) → step limit m c o ≡ Some s → is_done s.reply ≡ false → s.next ≡ m
refused_leaves_all limit m c o s e d = stepped_leaves m (judged limit m c) o s (judged_leaves limit m c) e d
