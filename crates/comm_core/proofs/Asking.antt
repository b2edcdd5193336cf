-- What may be asked of a target, and what comes of it.
use Rattle.std.proofs.Common.{◌≡◌, ℕ, Bool, true, false, cond, List, [], ◌∷◌, Option, None, Some, is_some, Ok, Err, option_map, filter, refl, ap, sym, ◌∙◌, subst, true≢false}
use Rattle.std.specs.Prelude.{unwrap_or}
use Rattle.std.specs.Str.{bytes_eq}
use Rattle.std.specs.Map.{keys_of}
use Rattle.comm_value.specs.Tree.{Members, no_members}
use Rattle.comm_messages.specs.Content.{Content}
use Rattle.comm_messages.specs.declared.outgoing.Outgoing.{Outgoing}
use Rattle.comm_targets.specs.Meaning.{Meaning, IsAskable, has_id, is_widget, after_abandon, after_prepare}
use Rattle.comm_targets.specs.Answers.{Answers, Refuses}
use Rattle.comm_targets.specs.Widget as widget
use Rattle.comm_targets.specs.declared.kind.Kind.{Kind}
use Rattle.comm_targets.specs.declared.kind.Kind.TheVariants.{Echo, Counter, Widget, WidgetEcho, Plain, Opaque, Free}
use Rattle.comm_targets.specs.declared.event.Event.{Event}
use Rattle.comm_targets.specs.declared.event.Event.TheVariants as event
use Rattle.comm_targets.specs.declared.answer.Answer.{Answer}
use Rattle.comm_targets.specs.declared.fault.TargetFault.{TargetFault}
use Rattle.comm_core.specs.Machine.{Name, Machine, at, has, with_at, ids_of}
use Rattle.comm_core.specs.Step.{Outcome, Done, AskTarget, judged, stepped, answer_step, refusal_step, holds_widget, request_of, Gives, Allowed}
use Rattle.comm_core.specs.Tables.{Targets, Opens, emptied, registered_of, targets_of, machine_of, Agrees, AnswerIsStaged, HaveStaged, unstaged, ended_of}
use Rattle.comm_core.specs.Plans.{SuitsComms, SuitsKind, CanAsk, CanRefuse, HasAnswered, HasCome, Suits, planned, staged_by, ended_by}
use Rattle.comm_core.specs.declared.comm.Comm.{Comm}
use Rattle.comm_core.specs.declared.call.Call.{Call}
use Rattle.comm_core.specs.declared.target_request.TargetRequest.{TargetRequest}
use Rattle.comm_core.specs.declared.reply.Reply.{Reply}
use Rattle.comm_core.specs.declared.table_update.TableUpdate.{TableUpdate}
use Rattle.comm_core.specs.declared.table_update.TableUpdate.TheVariants.{Nothing, Register, Replace, Unregister, Close, Commit}
use Rattle.comm_core.proofs.Keys.{text_itself}
use Rattle.comm_core.proofs.Names.{target_at, has_target}
use Rattle.comm_core.proofs.Staging.{none_of, unstaged-at, unstaged-there, unstaged-staged, one-staged}

-- an id that isn't open is an id of no target
no_id : (name id : Name) (comms : Opens) → at comms id ≡ None → has_id (ids_of name comms) id ≡ false
no_id name id [] h = refl
no_id name id (e ∷ es) h =
    let more = no_id name id es in
    (elim (bytes_eq id e.0) as (λ b. bytes_eq id e.0 ≡ b → cond b (Some e.1) (at es id) ≡ None → has_id (keys_of (cond (bytes_eq name e.1.target) (e ∷ filter (λ z. bytes_eq name z.1.target) es) (filter (λ z. bytes_eq name z.1.target) es))) id ≡ false) [
      | true ↦ λ p l. cc
      | false ↦ λ p l.
          elim (bytes_eq name e.1.target) as (λ b. has_id (keys_of (cond b (e ∷ filter (λ z. bytes_eq name z.1.target) es) (filter (λ z. bytes_eq name z.1.target) es))) id ≡ false) [
            | true ↦ rw p (more l)
            | false ↦ more l
          ]
    ]) refl h

-- an id that is open is an id of its target
open_id : (id : Name) (comms : Opens) (o : Comm) → at comms id ≡ Some o → has_id (ids_of o.target comms) id ≡ true
open_id id [] o h = absurd (cc)
open_id id (e ∷ es) o h =
    let more = open_id id es o in
    (elim (bytes_eq id e.0) as (λ b. bytes_eq id e.0 ≡ b → cond b (Some e.1) (at es id) ≡ Some o → has_id (keys_of (cond (bytes_eq o.target e.1.target) (e ∷ filter (λ z. bytes_eq o.target z.1.target) es) (filter (λ z. bytes_eq o.target z.1.target) es))) id ≡ true) [
      | true ↦ λ p l. let s : o ≡ e.1 = cc in let q : bytes_eq o.target e.1.target ≡ true = ap (λ (z : Comm). bytes_eq z.target e.1.target) s ∙ text_itself e.1.target in rw (q, p)
      | false ↦ λ p l.
          elim (bytes_eq o.target e.1.target) as (λ b. has_id (keys_of (cond b (e ∷ filter (λ z. bytes_eq o.target z.1.target) es) (filter (λ z. bytes_eq o.target z.1.target) es))) id ≡ true) [
            | true ↦ rw p (more l)
            | false ↦ more l
          ]
    ]) refl h

module _ (targets : Targets) (comms : Opens) (agrees : Agrees (unstaged targets) comms) where
  new_id : (t id : Name) (m : Meaning) → at targets t ≡ Some m → at comms id ≡ None → has_id m.ids id ≡ false
  new_id t id m is none = ap (λ l. has_id l id) (agrees.ids t (after_abandon m) (unstaged-at targets t m is)) ∙ no_id t id comms none

  -- a comm's target is there
  pub comm_there : (id : Name) (o : Comm) → at comms id ≡ Some o → is_some (at targets o.target) ≡ true
  comm_there id o is = sym (unstaged-there targets o.target) ∙ agrees.named id o is

  -- and has the comm's id
  pub comm_open : (id : Name) (o : Comm) (m : Meaning) → at comms id ≡ Some o → at targets o.target ≡ Some m → has_id m.ids id ≡ true
  comm_open id o m is there = ap (λ l. has_id l id) (agrees.ids o.target (after_abandon m) (unstaged-at targets o.target m there)) ∙ open_id id comms o is

  widget_there : (t : Name) (m : Meaning) → at targets t ≡ Some m → holds_widget (at (targets_of targets) t) ≡ true → is_widget m.kind ≡ true
  widget_there t m is w = sym (ap holds_widget (target_at targets t ∙ ap (option_map registered_of) is)) ∙ w

  pub askable : (t : Name) (e : Event) → SuitsComms comms t e → SuitsKind targets t e → (m : Meaning) → at targets t ≡ Some m → IsAskable m e
  askable t (event.Open id version body) s k m is = new_id t id m is s
  askable t (event.Msg id body) s k m is = comm_open id s.0 m s.1 (ap (at targets) s.2 ∙ is)
  askable t (event.Launch id state) s k m is = (new_id t id m is s, widget_there t m is k)
  askable t (event.Push id state) s k m is = (comm_open id s.0 m s.1 (ap (at targets) s.2 ∙ is), widget_there t m is k)

  never_refused : {P : Type 0} (k : Kind) (n : ℕ) (now : Option Members) (e : Event) (f : TargetFault) → is_widget k ≡ true
      → (a : Answer) → ((echoing : Bool) → widget.answer_of echoing (unwrap_or now no_members) e ≡ Ok a) → Refuses k n now e f → P
  never_refused Widget n now e f is a ok refuses = let q : Ok a ≡ Err f = sym (ok false) ∙ refuses in cc
  never_refused WidgetEcho n now e f is a ok refuses = let q : Ok a ≡ Err f = sym (ok true) ∙ refuses in cc
  never_refused Echo n now e f is a ok refuses = absurd (true≢false (sym is))
  never_refused Counter n now e f is a ok refuses = absurd (true≢false (sym is))
  never_refused Plain n now e f is a ok refuses = absurd (true≢false (sym is))
  never_refused Opaque n now e f is a ok refuses = absurd (true≢false (sym is))
  never_refused Free n now e f is a ok refuses = absurd (true≢false (sym is))

  pub can_refuse : (t : Name) (e : Event) → SuitsKind targets t e → (m : Meaning) → at targets t ≡ Some m → (now : Option Members) (f : TargetFault) → Refuses m.kind m.notes now e f → CanRefuse e
  can_refuse t (event.Open id version body) k m is now f r = tt
  can_refuse t (event.Msg id body) k m is now f r = tt
  can_refuse t (event.Launch id state) k m is now f r = never_refused m.kind m.notes now (event.Launch id state) f (widget_there t m is k) _ (λ _. refl) r
  can_refuse t (event.Push id state) k m is now f r = never_refused m.kind m.notes now (event.Push id state) f (widget_there t m is k) _ (λ _. refl) r

-- ---- what comes of a question

module _ (b : Targets) (c : Opens) (q : TargetRequest) (can : CanAsk b c q) (none : HaveStaged b (λ _. None)) (m : Meaning) (is : at b q.name ≡ Some m) where
  known : at (targets_of b) q.name ≡ Some (registered_of m)
  known = target_at b q.name ∙ ap (option_map registered_of) is

  pub answered_well : (a : Answer) (after : Targets) (r : Reply) (out : List Outgoing) → Answers m.kind m.notes q.state q.event a → after ≡ with_at b q.name (after_prepare m q.event a)
      → ((M : Machine) → answer_step M q.name q.event a ≡ record { reply = r; outgoing = out; next = (answer_step M q.name q.event a).next })
      → HasAnswered b c q (Some (Ok a)) r out (Commit q) after
  answered_well a after r out answers is_after replied =
      let unstaged_is : unstaged after ≡ unstaged b = ap unstaged is_after ∙ unstaged-staged b q.name m q.event a is in
      record {
        step_is = ap Some (replied (machine_of b c));
        allowed = subst (λ k. Gives k q (Ok a)) (sym known) answers;
        staged = rw is_after (one-staged b q.name m q.event a is none);
        stages = rw is_after (one-staged b q.name m q.event a is none);
        unstaged_is = unstaged_is;
        suits = (ap (λ l. is_some (at l q.name)) unstaged_is ∙ unstaged-there b q.name ∙ ap is_some is, can.comms_suit);
        ended = refl;
      }

  pub refused_well : (f : TargetFault) (after : Targets) (r : Reply) (out : List Outgoing) → Refuses m.kind m.notes q.state q.event f → after ≡ b
      → ((M : Machine) → refusal_step M q.event f ≡ Some (record { reply = r; outgoing = out; next = M }))
      → HasAnswered b c q (Some (Err f)) r out Nothing after
  refused_well f after r out refuses is_after replied =
      record {
        step_is = replied (machine_of b c);
        allowed = subst (λ k. Gives k q (Err f)) (sym known) refuses;
        staged = rw is_after none;
        stages = rw is_after none;
        unstaged_is = ap unstaged is_after;
        suits = tt;
        ended = refl;
      }

-- ---- what comes of a call

pub nothing_staged : (table_update : TableUpdate) (name : Name) → staged_by table_update None name ≡ None
nothing_staged Nothing name = refl
nothing_staged (Register n kind notes) name = refl
nothing_staged (Replace n kind notes) name = refl
nothing_staged (Unregister n) name = refl
nothing_staged (Close id place) name = refl
nothing_staged (Commit q) name = refl

module _ (l : ℕ) (b : Targets) (c : Opens) (k : Call) where
  pub came_done : (r : Reply) (out : List Outgoing) (table_update : TableUpdate) → Done r out (planned (machine_of b c) table_update None) ≡ judged l (machine_of b c) k → HaveStaged b (λ _. None)
      → Suits (unstaged b) c None table_update None → ended_by b table_update ≡ ended_of b k → HasCome l b c k None r out table_update b
  came_done r out table_update e none suits ended =
      record {
        step_is = ap (λ v. stepped (machine_of b c) v None) (sym e);
        allowed = subst (λ v. Allowed (machine_of b c) (request_of v) None) e tt;
        staged = none;
        stages = λ name m there. none name m there ∙ sym (nothing_staged table_update name);
        unstaged_is = refl;
        suits = suits;
        ended = ended;
      }

  pub came_asked : (q : TargetRequest) (o : Option Outcome) (r : Reply) (out : List Outgoing) (table_update : TableUpdate) (after : Targets) → AskTarget q ≡ judged l (machine_of b c) k
      → ((bs : Targets) → ended_of bs k ≡ None) → HasAnswered b c q o r out table_update after → HasCome l b c k o r out table_update after
  came_asked q o r out table_update after e nobody h =
      record {
        step_is = ap (λ v. stepped (machine_of b c) v o) (sym e) ∙ h.step_is;
        allowed = subst (λ v. Allowed (machine_of b c) (request_of v) o) e h.allowed;
        staged = subst (λ v. AnswerIsStaged after (request_of v) o) e h.staged;
        stages = h.stages;
        unstaged_is = h.unstaged_is;
        suits = h.suits;
        ended = h.ended ∙ sym (nobody after);
      }

-- ---- what is judged

pub nobody_ends : (b : Targets) (name : Name) → has (targets_of b) name ≡ false → option_map emptied (at b name) ≡ None
nobody_ends b name h = ap (option_map emptied) (none_of (at b name) (sym (has_target b name) ∙ h))

pub msg_asked : (b : Targets) (c : Opens) → Agrees (unstaged b) c → (id copy : Name) (x : Comm) (name : Name) (now : Option Members) (body : Content) → at c id ≡ Some x → name ≡ x.target → copy ≡ id
    → CanAsk b c (record { name = name; state = now; event = event.Msg copy body })
msg_asked b c h id copy x name now body is same copied =
    record {
      here = has_target b name ∙ ap (λ t. is_some (at b t)) same ∙ comm_there b c h id x is;
      comms_suit = (x, ap (at c) copied ∙ is, sym same);
      kind_suits = tt;
    }
