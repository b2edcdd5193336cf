-- The comms of targets that give no state.
use Rattle.std.proofs.Common.{◌≡◌, ℕ, Bool, true, false, not, cond, List, [], ◌∷◌, Option, None, Some, Ok, refl, ap, sym, ◌∙◌, subst, true≢false}
use Rattle.std.specs.Str.{bytes_eq}
use Rattle.std.specs.List.{list_any}
use Rattle.comm_value.specs.Tree.{Members}
use Rattle.comm_targets.specs.Answers.{Answers, echo_of, count_answer, plain_of}
use Rattle.comm_targets.specs.declared.kind.Kind.{Kind}
use Rattle.comm_targets.specs.declared.kind.Kind.TheVariants.{Echo, Counter, Widget, WidgetEcho, Plain, Opaque, Free}
use Rattle.comm_targets.specs.declared.event.Event.{Event}
use Rattle.comm_targets.specs.declared.event.Event.TheVariants as event
use Rattle.comm_targets.specs.declared.answer.Answer.{Answer}
use Rattle.comm_core.specs.Machine.{Name, Machine, empty, at, has}
use Rattle.comm_core.specs.Step.{Outcome, Gives, judged, is_full, holds_widget, comm_id}
use Rattle.comm_core.specs.History.{applied, replay_from, replay, IsLegal}
use Rattle.comm_core.specs.declared.entry.Entry.{Entry}
use Rattle.comm_core.specs.declared.entry.Entry.TheVariants.{Change, End}
use Rattle.comm_core.specs.Reads.{state_of, state_at}
use Rattle.comm_core.specs.Runs.{opening, HasOpened, has_ended, given, given_by, IsOpenSince}
use Rattle.comm_core.specs.Updates.{IsRegistered, is_stateless}
use Rattle.comm_core.specs.declared.comm.Comm.{Comm}
use Rattle.comm_core.specs.declared.call.Call.{Call}
use Rattle.comm_core.specs.declared.call.Call.TheVariants.{Register, Open, Msg, Close, Unregister, Launch, Push, Send, HangUp}
use Rattle.comm_core.specs.declared.reply.Reply.{Reply}
use Rattle.comm_core.specs.declared.reply.StateAnswer.TheVariants.{NoState}
use Rattle.comm_core.proofs.Keys.{same_text}
use Rattle.comm_core.proofs.Staging.{none_of}
use Rattle.comm_core.proofs.Changes.{newer, some_pair, same_pair, none_opens}
use Rattle.comm_core.proofs.Stepping.{Comes, comes, comes_if, comes_of, comes_told, none_stepped}
use Rattle.comm_core.proofs.Running.{Steps, Runs, replay-append}
use Rattle.comm_core.proofs.LeftOpen.{neither, entry_keeps, entry_opens}
use Rattle.comm_core.proofs.Registering.{HasKind, target_left, entry_leaves, is_registered}
use Rattle.comm_core.proofs.Updating.{same_comm, answers_kind, state_is, new_merges, after_opener, opener_leaves}

echo_state : (e : Event) → (echo_of e).state ≡ None
echo_state (event.Msg id body) = refl
echo_state e = refl

count_state : (n : ℕ) (e : Event) → (count_answer n e).state ≡ None
count_state n (event.Msg id body) = refl
count_state n e = refl

plain_state : (e : Event) → (plain_of e).state ≡ None
plain_state (event.Msg id body) = refl
plain_state e = refl

no_state : (k : Kind) (notes : ℕ) (now : Option Members) (e : Event) (a : Answer) → is_stateless k ≡ true → Answers k notes now e a → a.state ≡ None
no_state Echo notes now e a h w = state_is (echo_of e) a w ∙ echo_state e
no_state Counter notes now e a h w = state_is (count_answer notes e) a w ∙ count_state notes e
no_state Widget notes now e a h w = absurd (true≢false (sym h))
no_state WidgetEcho notes now e a h w = absurd (true≢false (sym h))
no_state Plain notes now e a h w = state_is (plain_of e) a w ∙ plain_state e
no_state Opaque notes now e a h w = state_is (plain_of e) a w ∙ plain_state e
no_state Free notes now e a h w = absurd (true≢false (sym h))

-- the target of this name is asked, of a comm with this state
abbrev Asks : Machine → Name → Option Members → Event → Answer → Type 0
Asks m name now e a = Gives (at m.targets name) (record { name = name; state = now; event = e }) (Ok a)

gives_none : (m : Machine) (name : Name) (now : Option Members) (e : Event) (a : Answer) (k : Kind) → is_stateless k ≡ true → HasKind m name k
    → Asks m name now e a → a.state ≡ None
gives_none m name now e a k h kind g = let w = answers_kind m (record { name = name; state = now; event = e }) a k kind g in no_state k w.0 now e a h w.1

none_either : (b : Bool) (s : Option Members) → s ≡ None → cond b s None ≡ None
none_either true s h = h
none_either false s h = refl

-- What a call gives a comm of such a target, which stands without a state or is opened.
record GivesNone (call : Call) (m : Machine) (o : Option Outcome) (r : Reply) (n : Machine) : Type 0 where
  pub standing : (id target : Name) (k : Kind) → is_stateless k ≡ true → HasKind m target k → at m.comms id ≡ Some (record { target = target; state = None })
      → given id call o ≡ None
  pub opening_it : (id target : Name) (k : Kind) → is_stateless k ≡ true → HasKind m target k → opening call r ≡ some_pair id target → given id call o ≡ None

told_none : (m : Machine) (told : Name) (x : Comm) (e : Event) (a : Answer) → at m.comms told ≡ Some x → Asks m x.target x.state e a
    → (id target : Name) (k : Kind) → is_stateless k ≡ true → HasKind m target k → at m.comms id ≡ Some (record { target = target; state = None }) → cond (bytes_eq id told) a.state None ≡ None
told_none m told x e a there g id target k h kind here =
    (elim (bytes_eq id told) as (λ b. bytes_eq id told ≡ b → cond b a.state None ≡ None) [
      | true ↦ λ p.
          let is : x ≡ record { target = target; state = None } = same_comm x _ (sym there ∙ sym (ap (at m.comms) (same_text id told p)) ∙ here) in
          gives_none m x.target x.state e a k h (subst (λ (z : Comm). HasKind m z.target k) (sym is) kind) g
      | false ↦ λ _. refl
    ]) refl

opened_none : (m : Machine) (opened name : Name) (e : Event) (a : Answer) → Asks m name None e a
    → (id target : Name) (k : Kind) → is_stateless k ≡ true → HasKind m target k → some_pair opened name ≡ some_pair id target → cond (bytes_eq id opened) a.state None ≡ None
opened_none m opened name e a g id target k h kind is =
    let same = same_pair opened name id target is in
    none_either (bytes_eq id opened) a.state (gives_none m name None e a k h (subst (λ z. HasKind m z k) (sym same.1) kind) g)

judged_gives : (limit : ℕ) (m : Machine) (call : Call) → Comes (GivesNone call m) m (judged limit m call)
judged_gives limit m (Register name kind notes) =
    comes_if (GivesNone (Register name kind notes) m) m (has m.targets name) _ _ (λ _. record { standing = λ i t k h u c. refl; opening_it = λ i t k h u c. refl })
    (λ _. record { standing = λ i t k h u c. refl; opening_it = λ i t k h u c. refl })
judged_gives limit m (Open id target version body) =
    let G = GivesNone (Open id target version body) m in
    comes_if G m (has m.comms id) _ _ (λ _. record { standing = λ i t k h u c. refl; opening_it = λ i t k h u c. refl })
    (λ new. comes_if G m (not (has m.targets target)) _ _ (λ _. record { standing = λ i t k h u c. refl; opening_it = λ i t k h u c. refl })
    (λ _. comes_if G m (is_full limit m) _ _ (λ _. record { standing = λ i t k h u c. refl; opening_it = λ i t k h u c. refl })
    (λ _. (
      (λ a g. record {
        standing = λ i t k h u c. new_merges m id a.state (none_of (at m.comms id) new) i (record { target = t; state = None }) c;
        opening_it = λ i t k h u c. opened_none m id target (event.Open id version body) a g i t k h u c;
      }),
      (λ f s e. comes_told G m f _ s (record { standing = λ i t k h u c. refl; opening_it = λ i t k h u c. refl }) e),
    ))))
judged_gives limit m (Msg id body) =
    let G = GivesNone (Msg id body) m in
    comes_of G m (at m.comms id) _ (record { standing = λ i t k h u c. refl; opening_it = λ i t k h u c. refl })
    (λ x there. (
      (λ a g. record {
        standing = λ i t k h u c. told_none m id x (event.Msg id body) a there g i t k h u c;
        opening_it = λ i t k h u c. none_opens i t c;
      }),
      (λ f s e. comes_told G m f _ s (record { standing = λ i t k h u c. refl; opening_it = λ i t k h u c. refl }) e),
    ))
judged_gives limit m (Close id) =
    comes_of (GivesNone (Close id) m) m (at m.comms id) _ (record { standing = λ i t k h u c. refl; opening_it = λ i t k h u c. refl })
    (λ x there. record { standing = λ i t k h u c. refl; opening_it = λ i t k h u c. refl })
judged_gives limit m (Unregister name) =
    comes_if (GivesNone (Unregister name) m) m (has m.targets name) _ _ (λ _. record { standing = λ i t k h u c. refl; opening_it = λ i t k h u c. refl })
    (λ _. record { standing = λ i t k h u c. refl; opening_it = λ i t k h u c. refl })
judged_gives limit m (Launch uuid target state) =
    let G = GivesNone (Launch uuid target state) m in
    let id = comm_id uuid in
    comes_if G m (has m.comms id) _ _ (λ _. record { standing = λ i t k h u c. refl; opening_it = λ i t k h u c. refl })
    (λ new. comes_if G m (not (has m.targets target)) _ _ (λ _. record { standing = λ i t k h u c. refl; opening_it = λ i t k h u c. refl })
    (λ _. comes_if G m (not (holds_widget (at m.targets target))) _ _ (λ _. record { standing = λ i t k h u c. refl; opening_it = λ i t k h u c. refl })
    (λ _. comes_if G m (is_full limit m) _ _ (λ _. record { standing = λ i t k h u c. refl; opening_it = λ i t k h u c. refl })
    (λ _. (
      (λ a g. record {
        standing = λ i t k h u c. new_merges m id a.state (none_of (at m.comms id) new) i (record { target = t; state = None }) c;
        opening_it = λ i t k h u c. opened_none m id target (event.Launch id state) a g i t k h u c;
      }),
      (λ f s e. none_stepped s e),
    )))))
judged_gives limit m (Push id state) =
    let G = GivesNone (Push id state) m in
    comes_of G m (at m.comms id) _ (record { standing = λ i t k h u c. refl; opening_it = λ i t k h u c. refl })
    (λ x there. comes_if G m (holds_widget (at m.targets x.target)) _ _
    (λ _. (
      (λ a g. record {
        standing = λ i t k h u c. told_none m id x (event.Push id state) a there g i t k h u c;
        opening_it = λ i t k h u c. none_opens i t c;
      }),
      (λ f s e. none_stepped s e),
    ))
    (λ _. record { standing = λ i t k h u c. refl; opening_it = λ i t k h u c. refl }))
judged_gives limit m (Send id body) =
    comes_of (GivesNone (Send id body) m) m (at m.comms id) _ (record { standing = λ i t k h u c. refl; opening_it = λ i t k h u c. refl })
    (λ x there. record { standing = λ i t k h u c. refl; opening_it = λ i t k h u c. refl })
judged_gives limit m (HangUp id) =
    comes_of (GivesNone (HangUp id) m) m (at m.comms id) _ (record { standing = λ i t k h u c. refl; opening_it = λ i t k h u c. refl })
    (λ x there. record { standing = λ i t k h u c. refl; opening_it = λ i t k h u c. refl })

module _ (limit : ℕ) (k : Kind) (stateless : is_stateless k ≡ true) where
  entry_stands : (m : Machine) (e : Entry) (id target : Name) → Steps limit m e → at m.comms id ≡ Some (record { target = target; state = None })
      → HasKind m target k → has_ended id target e ≡ false
      → at (applied limit m e).comms id ≡ Some (record { target = target; state = None })
  entry_stands m End id target r there kind going = absurd (true≢false going)
  entry_stands m (Change client number call outcome reply outgoing) id target r there kind going =
      let none = (comes (GivesNone call m) m (judged limit m call) outcome _ (judged_gives limit m call) r.0 r.1).standing id target k stateless kind there in
      entry_keeps limit m (Change client number call outcome reply outgoing) id (record { target = target; state = None }) r there going
      ∙ ap (λ o. Some (record { target = target; state = newer o None })) none

  run_stands : (m : Machine) (es : List Entry) (id target : Name) → Runs limit m es → at m.comms id ≡ Some (record { target = target; state = None })
      → HasKind m target k → list_any (has_ended id target) es ≡ false
      → at (replay_from limit m es).comms id ≡ Some (record { target = target; state = None })
  run_stands m [] id target r there kind going = there
  run_stands m (e ∷ es) id target r there kind going =
      let parts = neither (has_ended id target e) (list_any (has_ended id target) es) going in
      run_stands (applied limit m e) es id target r.1 (entry_stands m e id target r.0 there kind parts.0) (entry_leaves limit m e target k r.0 kind (target_left e id target parts.0)) parts.1

  entry_begins : (m : Machine) (e : Entry) (id target : Name) → Steps limit m e → HasOpened e id target → HasKind m target k → given_by id e ≡ None
  entry_begins m End id target r h kind = absurd h
  entry_begins m (Change client number call outcome reply outgoing) id target r h kind =
      (comes (GivesNone call m) m (judged limit m call) outcome _ (judged_gives limit m call) r.0 r.1).opening_it id target k stateless kind h

  pub stands : (clients : ℕ) (h before : List Entry) (opener : Entry) (after : List Entry) (id target : Name) → IsLegal clients limit h
      → IsOpenSince h before opener after id target → IsRegistered before target k
      → at (replay limit h).comms id ≡ Some (record { target = target; state = None })
  stands clients h before opener after id target p since is =
      let runs = after_opener limit clients h before opener after id target p since in
      let m = replay limit before in
      let kind = is_registered limit before target k runs.0 is in
      let there = entry_opens limit m opener id target runs.1.0 since.opened
      ∙ ap (λ o. Some (record { target = target; state = o })) (entry_begins m opener id target runs.1.0 since.opened kind) in
      ap (λ l. at (replay limit l).comms id) since.parts ∙ ap (λ (z : Machine). at z.comms id) (replay-append limit empty before (opener ∷ after))
      ∙ run_stands (applied limit m opener) after id target runs.1.1 there (opener_leaves limit opener m id target k runs.1.0 since.opened kind) since.lasts

pub no_states : (clients limit : ℕ) (h before : List Entry) (opener : Entry) (after : List Entry) (id target : Name) (k : Kind) → IsLegal clients limit h
    → IsOpenSince h before opener after id target → IsRegistered before target k
    → is_stateless k ≡ true → state_of (replay limit h) id ≡ NoState
no_states clients limit h before opener after id target k p since is stateless = ap state_at (stands limit k stateless clients h before opener after id target p since is)
