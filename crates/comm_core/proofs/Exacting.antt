-- Machines without Free targets.
use Rattle.std.proofs.Common.{◌≡◌, ℕ, Bool, true, false, not, cond, List, [], ◌∷◌, ◌++◌, Option, None, Some, Ok, Err, refl, ap, sym, ◌∙◌, true≢false, ◌&&◌}
use Rattle.std.specs.Str.{bytes_eq}
use Rattle.std.specs.List.{list_all}
use Rattle.comm_value.specs.Tree.{Members}
use Rattle.comm_targets.specs.Answers.{Answers, Refuses, answer_of}
use Rattle.comm_targets.specs.Meaning.{notes_after}
use Rattle.comm_targets.specs.declared.kind.Kind.{Kind}
use Rattle.comm_targets.specs.declared.kind.Kind.TheVariants.{Echo, Counter, Widget, WidgetEcho, Plain, Opaque, Free}
use Rattle.comm_targets.specs.declared.event.Event.{Event}
use Rattle.comm_targets.specs.declared.event.Event.TheVariants as event
use Rattle.comm_targets.specs.declared.answer.Answer.{Answer}
use Rattle.comm_targets.specs.declared.fault.TargetFault.{TargetFault}
use Rattle.comm_core.specs.Machine.{Name, Registered, Machine, at, has, with_at, without}
use Rattle.comm_core.specs.Step.{Outcome, Stepped, Verdict, Done, AskTarget, Gives, Allowed, asks, judged, step, stepped, answer_step, refusal_step, noted, of_comm, is_full, holds_widget, comm_id}
use Rattle.comm_core.specs.Exact.{is_free, is_exact, outcome_by, outcome_at, exact_outcome, registers_free}
use Rattle.comm_core.specs.declared.comm.Comm.{Comm}
use Rattle.comm_core.specs.declared.target_request.TargetRequest.{TargetRequest}
use Rattle.comm_core.specs.declared.call.Call.{Call}
use Rattle.comm_core.specs.declared.call.Call.TheVariants.{Register, Open, Msg, Close, Unregister, Launch, Push, Send, HangUp}

-- ---- one outcome

abbrev test : Name × Registered → Bool
test e = not (is_free e.1.kind)

both : (a b : Bool) → a && b ≡ true → (a ≡ true) × (b ≡ true)
both true b h = (refl, h)
both false b h = absurd (true≢false (sym h))

exact_at : (es : List (Name × Registered)) (name : Name) (r : Registered) → list_all test es ≡ true → at es name ≡ Some r → not (is_free r.kind) ≡ true
exact_at [] name r h is = absurd (cc)
exact_at (e ∷ es) name r h is =
    let parts = both (test e) (list_all test es) h in
    let more = exact_at es name r parts.1 in
    (elim (bytes_eq name e.0) as (λ b. cond b (Some e.1) (at es name) ≡ Some r → not (is_free r.kind) ≡ true) [
      | true ↦ λ l. let s : e.1 ≡ r = cc in ap (λ (z : Registered). not (is_free z.kind)) (sym s) ∙ parts.0
      | false ↦ λ l. more l
    ]) is

answers_one : (k : Kind) (n : ℕ) (now : Option Members) (e : Event) (a : Answer) → not (is_free k) ≡ true → Answers k n now e a → answer_of k n now e ≡ Ok a
answers_one Echo n now e a h x = x
answers_one Counter n now e a h x = x
answers_one Widget n now e a h x = x
answers_one WidgetEcho n now e a h x = x
answers_one Plain n now e a h x = x
answers_one Opaque n now e a h x = x
answers_one Free n now e a h x = absurd (true≢false (sym h))

refuses_one : (k : Kind) (n : ℕ) (now : Option Members) (e : Event) (f : TargetFault) → not (is_free k) ≡ true → Refuses k n now e f → answer_of k n now e ≡ Err f
refuses_one Echo n now e f h x = x
refuses_one Counter n now e f h x = x
refuses_one Widget n now e f h x = x
refuses_one WidgetEcho n now e f h x = x
refuses_one Plain n now e f h x = x
refuses_one Opaque n now e f h x = x
refuses_one Free n now e f h x = absurd (true≢false (sym h))

gives_one : (t : Option Registered) (q : TargetRequest) (g : Outcome) → ((r : Registered) → t ≡ Some r → not (is_free r.kind) ≡ true) → Gives t q g → Some g ≡ outcome_by t q
gives_one None q g exact h = absurd h
gives_one (Some r) q (Ok a) exact h = ap Some (sym (answers_one r.kind r.notes q.state q.event a (exact r refl) h))
gives_one (Some r) q (Err f) exact h = ap Some (sym (refuses_one r.kind r.notes q.state q.event f (exact r refl) h))

one_outcome : (m : Machine) (q : Option TargetRequest) (o : Option Outcome) → is_exact m ≡ true → Allowed m q o → o ≡ outcome_at m q
one_outcome m None None exact h = refl
one_outcome m None (Some g) exact h = absurd h
one_outcome m (Some q) None exact h = absurd h
one_outcome m (Some q) (Some g) exact h = gives_one (at m.targets q.name) q g (λ r is. exact_at m.targets q.name r exact is) h

pub no_choice : (limit : ℕ) (m : Machine) (c : Call) (o : Option Outcome) → is_exact m ≡ true → Allowed m (asks limit m c) o → o ≡ exact_outcome limit m c
no_choice limit m c o exact h = one_outcome m (asks limit m c) o exact h

-- ---- steps keep it

all_append : (es : List (Name × Registered)) (e : Name × Registered) → list_all test es ≡ true → test e ≡ true → list_all test (es ++ e ∷ []) ≡ true
all_append [] e h t = rw t refl
all_append (x ∷ es) e h t = let parts = both (test x) (list_all test es) h in rw (parts.0, all_append es e parts.1 t) refl

all_without : (es : List (Name × Registered)) (name : Name) → list_all test es ≡ true → list_all test (without es name) ≡ true
all_without [] name h = refl
all_without (e ∷ es) name h =
    let parts = both (test e) (list_all test es) h in
    let more = all_without es name parts.1 in
    elim (bytes_eq name e.0) as (λ b. list_all test (cond b es (e ∷ without es name)) ≡ true) [ true ↦ parts.1 | false ↦ rw (parts.0, more) refl ]

all_with_at : (es : List (Name × Registered)) (name : Name) (r : Registered) → list_all test es ≡ true → not (is_free r.kind) ≡ true → list_all test (with_at es name r) ≡ true
all_with_at [] name r h t = refl
all_with_at (e ∷ es) name r h t =
    let parts = both (test e) (list_all test es) h in
    let more = all_with_at es name r parts.1 t in
    elim (bytes_eq name e.0) as (λ b. list_all test (cond b ((e.0, r) ∷ es) (e ∷ with_at es name r)) ≡ true) [ true ↦ rw (t, parts.1) refl | false ↦ rw (parts.0, more) refl ]

all_noted : (es : List (Name × Registered)) (name : Name) (e : Event) (t : Option Registered) → at es name ≡ t → list_all test es ≡ true → list_all test (noted es name e t) ≡ true
all_noted es name e None is h = h
all_noted es name e (Some r) is h = all_with_at es name (record { kind = r.kind; notes = notes_after r.kind r.notes e }) h (exact_at es name r h is)

abbrev Keeps : Machine → Verdict → Type 0
Keeps m (Done r out next) = is_exact m ≡ true → is_exact next ≡ true
Keeps m (AskTarget q) = Unit {0}

keeps_if : (m : Machine) (b : Bool) (v w : Verdict) → Keeps m v → Keeps m w → Keeps m (cond b v w)
keeps_if m true v w p q = p
keeps_if m false v w p q = q

keeps_of : (m : Machine) (c : Option Comm) (f : Comm → Verdict) → ((x : Comm) → Keeps m (f x)) → Keeps m (of_comm m c f)
keeps_of m None f h = λ e. e
keeps_of m (Some c) f h = h c

judged_keeps : (limit : ℕ) (m : Machine) (c : Call) → registers_free c ≡ false → Keeps m (judged limit m c)
judged_keeps limit m (Register name kind notes) free =
    keeps_if m (has m.targets name) _ _ (λ e. all_with_at m.targets name (record { kind = kind; notes = notes }) e (ap not free)) (λ e. all_append m.targets (name, record { kind = kind; notes = notes }) e (ap not free))
judged_keeps limit m (Open id target version body) free =
    keeps_if m (has m.comms id) _ _ (λ e. e) (keeps_if m (not (has m.targets target)) _ _ (λ e. e) (keeps_if m (is_full limit m) _ _ (λ e. e) tt))
judged_keeps limit m (Msg id body) free = keeps_of m (at m.comms id) _ (λ x. tt)
judged_keeps limit m (Close id) free = keeps_of m (at m.comms id) _ (λ x e. e)
judged_keeps limit m (Unregister name) free = keeps_if m (has m.targets name) _ _ (λ e. all_without m.targets name e) (λ e. e)
judged_keeps limit m (Launch uuid target state) free =
    keeps_if m (has m.comms (comm_id uuid)) _ _ (λ e. e) (keeps_if m (not (has m.targets target)) _ _ (λ e. e)
    (keeps_if m (not (holds_widget (at m.targets target))) _ _ (λ e. e) (keeps_if m (is_full limit m) _ _ (λ e. e) tt)))
judged_keeps limit m (Push id state) free = keeps_of m (at m.comms id) _ (λ x. keeps_if m (holds_widget (at m.targets x.target)) _ _ tt (λ e. e))
judged_keeps limit m (Send id body) free = keeps_of m (at m.comms id) _ (λ x e. e)
judged_keeps limit m (HangUp id) free = keeps_of m (at m.comms id) _ (λ x e. e)

answered_keeps : (m : Machine) (name : Name) (e : Event) (a : Answer) → is_exact m ≡ true → is_exact (answer_step m name e a).next ≡ true
answered_keeps m name (event.Open id version body) a h = h
answered_keeps m name (event.Msg id body) a h = all_noted m.targets name (event.Msg id body) (at m.targets name) refl h
answered_keeps m name (event.Launch id state) a h = h
answered_keeps m name (event.Push id state) a h = all_noted m.targets name (event.Push id state) (at m.targets name) refl h

some_next : (x s : Stepped) → Some x ≡ Some s → x ≡ s
some_next x s e = cc

none_next : (s : Stepped) {P : Type 0} → ◌≡◌ {A = Option Stepped} None (Some s) → P
none_next s e = cc

refused_keeps : (m : Machine) (e : Event) (f : TargetFault) (s : Stepped) → is_exact m ≡ true → refusal_step m e f ≡ Some s → is_exact s.next ≡ true
refused_keeps m (event.Open id version body) f s h e = ap (λ (z : Stepped). is_exact z.next) (sym (some_next _ s e)) ∙ h
refused_keeps m (event.Msg id body) f s h e = ap (λ (z : Stepped). is_exact z.next) (sym (some_next _ s e)) ∙ h
refused_keeps m (event.Launch id state) f s h e = none_next s e
refused_keeps m (event.Push id state) f s h e = none_next s e

stepped_keeps : (m : Machine) (v : Verdict) (o : Option Outcome) (s : Stepped) → is_exact m ≡ true → Keeps m v → stepped m v o ≡ Some s → is_exact s.next ≡ true
stepped_keeps m (Done r out next) None s h k e = ap (λ (z : Stepped). is_exact z.next) (sym (some_next _ s e)) ∙ k h
stepped_keeps m (Done r out next) (Some g) s h k e = none_next s e
stepped_keeps m (AskTarget q) (Some (Ok a)) s h k e = ap (λ (z : Stepped). is_exact z.next) (sym (some_next _ s e)) ∙ answered_keeps m q.name q.event a h
stepped_keeps m (AskTarget q) (Some (Err f)) s h k e = refused_keeps m q.event f s h e
stepped_keeps m (AskTarget q) None s h k e = none_next s e

pub step_keeps : (limit : ℕ) (m : Machine) (c : Call) (o : Option Outcome) (s : Stepped) → is_exact m ≡ true → registers_free c ≡ false → step limit m c o ≡ Some s → is_exact s.next ≡ true
step_keeps limit m c o s h free e = stepped_keeps m (judged limit m c) o s h (judged_keeps limit m c free) e
