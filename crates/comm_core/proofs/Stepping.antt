-- What one step does to the comms, for every call and outcome.
use Rattle.std.proofs.Common.{◌≡◌, ℕ, Bool, true, false, not, cond, List, [], ◌∷◌, ◌++◌, Option, None, Some, Ok, Err, refl, subst}
use Rattle.std.specs.Str.{bytes_eq}
use Rattle.comm_value.specs.Tree.{Members}
use Rattle.comm_targets.specs.declared.event.Event.TheVariants as event
use Rattle.comm_targets.specs.declared.answer.Answer.{Answer}
use Rattle.comm_targets.specs.declared.fault.TargetFault.{TargetFault}
use Rattle.comm_core.specs.Machine.{Name, Machine, at, has, without, others}
use Rattle.comm_core.specs.Step.{Outcome, Stepped, Verdict, Done, AskTarget, Gives, Allowed, asks, judged, request_of, step, stepped, answer_step, refusal_step, of_comm, stated, is_full, holds_widget, comm_id}
use Rattle.comm_core.specs.Tables.{Opens}
use Rattle.comm_core.specs.Runs.{Pair, opening, ending, given}
use Rattle.comm_core.specs.declared.comm.Comm.{Comm}
use Rattle.comm_core.specs.declared.call.Call.{Call}
use Rattle.comm_core.specs.declared.call.Call.TheVariants.{Register, Open, Msg, Close, Unregister, Launch, Push, Send, HangUp}
use Rattle.comm_core.specs.declared.reply.Reply.{Reply}
use Rattle.comm_core.specs.declared.reply.Reply.TheVariants as reply
use Rattle.comm_core.proofs.Staging.{none_of}

-- ---- a fact of each outcome, reply and next machine that a verdict may come to

abbrev pub Comes : (Option Outcome → Reply → Machine → Type 0) → Machine → Verdict → Type 0
Comes P m (Done r out next) = P None r next
Comes P m (AskTarget q) =
    ((a : Answer) → Gives (at m.targets q.name) q (Ok a) → P (Some (Ok a)) (answer_step m q.name q.event a).reply (answer_step m q.name q.event a).next)
    × ((f : TargetFault) (s : Stepped) → refusal_step m q.event f ≡ Some s → P (Some (Err f)) s.reply s.next)

pub some_same : (x s : Stepped) → Some x ≡ Some s → x ≡ s
some_same x s e = cc

pub comes : (P : Option Outcome → Reply → Machine → Type 0) (m : Machine) (v : Verdict) (o : Option Outcome) (s : Stepped) → Comes P m v
    → Allowed m (request_of v) o → stepped m v o ≡ Some s → P o s.reply s.next
comes P m (Done r out next) None s h a e = subst (λ (z : Stepped). P None z.reply z.next) (some_same _ s e) h
comes P m (Done r out next) (Some g) s h a e = absurd a
comes P m (AskTarget q) (Some (Ok x)) s h a e = subst (λ (z : Stepped). P (Some (Ok x)) z.reply z.next) (some_same _ s e) (h.0 x a)
comes P m (AskTarget q) (Some (Err f)) s h a e = h.1 f s e
comes P m (AskTarget q) None s h a e = absurd a

module _ (P : Option Outcome → Reply → Machine → Type 0) (m : Machine) where
  pub comes_if : (b : Bool) (v w : Verdict) → (b ≡ true → Comes P m v) → (b ≡ false → Comes P m w) → Comes P m (cond b v w)
  comes_if true v w h k = h refl
  comes_if false v w h k = k refl

  pub comes_of : (c : Option Comm) (f : Comm → Verdict) → P None reply.NoComm m → ((x : Comm) → c ≡ Some x → Comes P m (f x)) → Comes P m (of_comm m c f)
  comes_of None f n h = n
  comes_of (Some x) f n h = h x refl

  pub comes_told : (f : TargetFault) (x s : Stepped) → P (Some (Err f)) x.reply x.next → Some x ≡ Some s → P (Some (Err f)) s.reply s.next
  comes_told f x s h e = subst (λ (z : Stepped). P (Some (Err f)) z.reply z.next) (some_same x s e) h

pub none_stepped : (s : Stepped) {P : Type 0} → ◌≡◌ {A = Option Stepped} None (Some s) → P
none_stepped s e = cc

-- ---- what a step does to the comms

pub data Change : Type 0 where
  stays_so : Change
  begins : (id target : Name) → Option Members → Change
  after_close : Name → Change
  -- those of a target
  empties : Name → Change
  tells : (id target : Name) → Option Members → Change

abbrev pub changed : Change → Opens → Opens
changed stays_so c = c
changed (begins id target state) c = c ++ (id, record { target = target; state = state }) ∷ []
changed (after_close id) c = without c id
changed (empties name) c = others name c
changed (tells id target state) c = stated c id target state

abbrev pub opening_of : Change → Option Pair
opening_of (begins id target state) = Some (id, target)
opening_of stays_so = None
opening_of (after_close id) = None
opening_of (empties name) = None
opening_of (tells id target state) = None

abbrev pub ending_of : Change → Name → Name → Bool
ending_of (after_close closed) id target = bytes_eq id closed
ending_of (empties name) id target = bytes_eq name target
ending_of stays_so id target = false
ending_of (begins opened t state) id target = false
ending_of (tells told t state) id target = false

abbrev pub given_of : Change → Name → Option Members
given_of (begins opened target state) id = cond (bytes_eq id opened) state None
given_of (tells told target state) id = cond (bytes_eq id told) state None
given_of stays_so id = None
given_of (after_close closed) id = None
given_of (empties name) id = None

abbrev pub Fits : Change → Opens → Type 0
Fits (begins id target state) c = at c id ≡ None
Fits (tells id target state) c = (x : Comm) × (at c id ≡ Some x) × (x.target ≡ target)
Fits stays_so c = Unit {0}
Fits (after_close id) c = Unit {0}
Fits (empties name) c = Unit {0}

-- The step changes the comms so, and the call with its reply and outcome says it.
pub record Does (call : Call) (m : Machine) (o : Option Outcome) (r : Reply) (n : Machine) : Type 0 where
  pub change : Change
  pub comms : n.comms ≡ changed change m.comms
  pub opens : opening call r ≡ opening_of change
  pub ends : (id target : Name) → ending call r id target ≡ ending_of change id target
  pub gives : (id : Name) → given id call o ≡ given_of change id
  pub fits : Fits change m.comms

does_open : (m : Machine) (id target : Name) (version : Option Name) (body : _) → has m.comms id ≡ false
    → Comes (Does (Open id target version body) m) m (AskTarget (record { name = target; state = None; event = event.Open id version body }))
does_open m id target version body new = (
  (λ a g. record { change = begins id target a.state; comms = refl; opens = refl; ends = λ _ _. refl; gives = λ _. refl; fits = none_of (at m.comms id) new }),
  (λ f s e. comes_told (Does (Open id target version body) m) m f _ s (record { change = stays_so; comms = refl; opens = refl; ends = λ _ _. refl; gives = λ _. refl; fits = tt }) e),
)

does_launch : (m : Machine) (uuid : List ℕ) (target : Name) (state : Members) → has m.comms (comm_id uuid) ≡ false
    → Comes (Does (Launch uuid target state) m) m (AskTarget (record { name = target; state = None; event = event.Launch (comm_id uuid) state }))
does_launch m uuid target state new = (
  (λ a g. record { change = begins (comm_id uuid) target a.state; comms = refl; opens = refl; ends = λ _ _. refl; gives = λ _. refl; fits = none_of (at m.comms (comm_id uuid)) new }),
  (λ f s e. none_stepped s e),
)

does_msg : (m : Machine) (id : Name) (body : _) (x : Comm) → at m.comms id ≡ Some x
    → Comes (Does (Msg id body) m) m (AskTarget (record { name = x.target; state = x.state; event = event.Msg id body }))
does_msg m id body x there = (
  (λ a g. record { change = tells id x.target a.state; comms = refl; opens = refl; ends = λ _ _. refl; gives = λ _. refl; fits = (x, there, refl) }),
  (λ f s e. comes_told (Does (Msg id body) m) m f _ s (record { change = stays_so; comms = refl; opens = refl; ends = λ _ _. refl; gives = λ _. refl; fits = tt }) e),
)

does_push : (m : Machine) (id : Name) (state : Members) (x : Comm) → at m.comms id ≡ Some x
    → Comes (Does (Push id state) m) m (AskTarget (record { name = x.target; state = x.state; event = event.Push id state }))
does_push m id state x there = (
  (λ a g. record { change = tells id x.target a.state; comms = refl; opens = refl; ends = λ _ _. refl; gives = λ _. refl; fits = (x, there, refl) }),
  (λ f s e. none_stepped s e),
)

judged_does : (limit : ℕ) (m : Machine) (call : Call) → Comes (Does call m) m (judged limit m call)
judged_does limit m (Register name kind notes) =
    comes_if (Does (Register name kind notes) m) m (has m.targets name) _ _
    (λ _. record { change = empties name; comms = refl; opens = refl; ends = λ _ _. refl; gives = λ _. refl; fits = tt })
    (λ _. record { change = stays_so; comms = refl; opens = refl; ends = λ _ _. refl; gives = λ _. refl; fits = tt })
judged_does limit m (Open id target version body) =
    let D = Does (Open id target version body) m in
    comes_if D m (has m.comms id) _ _ (λ _. record { change = stays_so; comms = refl; opens = refl; ends = λ _ _. refl; gives = λ _. refl; fits = tt })
    (λ new. comes_if D m (not (has m.targets target)) _ _ (λ _. record { change = stays_so; comms = refl; opens = refl; ends = λ _ _. refl; gives = λ _. refl; fits = tt })
    (λ _. comes_if D m (is_full limit m) _ _ (λ _. record { change = stays_so; comms = refl; opens = refl; ends = λ _ _. refl; gives = λ _. refl; fits = tt })
    (λ _. does_open m id target version body new)))
judged_does limit m (Msg id body) =
    comes_of (Does (Msg id body) m) m (at m.comms id) _ (record { change = stays_so; comms = refl; opens = refl; ends = λ _ _. refl; gives = λ _. refl; fits = tt })
    (λ x there. does_msg m id body x there)
judged_does limit m (Close id) =
    comes_of (Does (Close id) m) m (at m.comms id) _ (record { change = stays_so; comms = refl; opens = refl; ends = λ _ _. refl; gives = λ _. refl; fits = tt })
    (λ x there. record { change = after_close id; comms = refl; opens = refl; ends = λ _ _. refl; gives = λ _. refl; fits = tt })
judged_does limit m (Unregister name) =
    comes_if (Does (Unregister name) m) m (has m.targets name) _ _
    (λ _. record { change = empties name; comms = refl; opens = refl; ends = λ _ _. refl; gives = λ _. refl; fits = tt })
    (λ _. record { change = stays_so; comms = refl; opens = refl; ends = λ _ _. refl; gives = λ _. refl; fits = tt })
judged_does limit m (Launch uuid target state) =
    let D = Does (Launch uuid target state) m in
    comes_if D m (has m.comms (comm_id uuid)) _ _ (λ _. record { change = stays_so; comms = refl; opens = refl; ends = λ _ _. refl; gives = λ _. refl; fits = tt })
    (λ new. comes_if D m (not (has m.targets target)) _ _ (λ _. record { change = stays_so; comms = refl; opens = refl; ends = λ _ _. refl; gives = λ _. refl; fits = tt })
    (λ _. comes_if D m (not (holds_widget (at m.targets target))) _ _ (λ _. record { change = stays_so; comms = refl; opens = refl; ends = λ _ _. refl; gives = λ _. refl; fits = tt })
    (λ _. comes_if D m (is_full limit m) _ _ (λ _. record { change = stays_so; comms = refl; opens = refl; ends = λ _ _. refl; gives = λ _. refl; fits = tt })
    (λ _. does_launch m uuid target state new))))
judged_does limit m (Push id state) =
    comes_of (Does (Push id state) m) m (at m.comms id) _ (record { change = stays_so; comms = refl; opens = refl; ends = λ _ _. refl; gives = λ _. refl; fits = tt })
    (λ x there. comes_if (Does (Push id state) m) m (holds_widget (at m.targets x.target)) _ _ (λ _. does_push m id state x there)
    (λ _. record { change = stays_so; comms = refl; opens = refl; ends = λ _ _. refl; gives = λ _. refl; fits = tt }))
judged_does limit m (Send id body) =
    comes_of (Does (Send id body) m) m (at m.comms id) _ (record { change = stays_so; comms = refl; opens = refl; ends = λ _ _. refl; gives = λ _. refl; fits = tt })
    (λ x there. record { change = stays_so; comms = refl; opens = refl; ends = λ _ _. refl; gives = λ _. refl; fits = tt })
judged_does limit m (HangUp id) =
    comes_of (Does (HangUp id) m) m (at m.comms id) _ (record { change = stays_so; comms = refl; opens = refl; ends = λ _ _. refl; gives = λ _. refl; fits = tt })
    (λ x there. record { change = after_close id; comms = refl; opens = refl; ends = λ _ _. refl; gives = λ _. refl; fits = tt })

pub step_does : (limit : ℕ) (m : Machine) (call : Call) (o : Option Outcome) (s : Stepped) → Allowed m (asks limit m call) o → step limit m call o ≡ Some s
    → Does call m o s.reply s.next
step_does limit m call o s a e = comes (Does call m) m (judged limit m call) o s (judged_does limit m call) a e
