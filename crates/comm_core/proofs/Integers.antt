-- A run in which no decimal comes in sends none.
use Rattle.std.proofs.Common.{◌≡◌, ℕ, Bool, true, false, cond, List, Option, None, Some, Ok, Err, IfSome, refl, subst}
use Rattle.std.specs.Prelude.{codes, Result, unwrap_or}
use Rattle.std.specs.Str.{bytes_eq}
use Rattle.std.specs.List.{AllByRecursion}
use Rattle.std.specs.Result.{result_map_both}
use Rattle.comm_value.specs.Tree.{Tree, text, dict, Members, no_members, member}
use Rattle.comm_value.specs.Node.{Path, get}
use Rattle.comm_value.specs.Gives.{◌>>=◌}
use Rattle.comm_value.specs.Paths.{read_paths}
use Rattle.comm_value.specs.Put.{placed_in}
use Rattle.comm_value.specs.Places.{member_paths}
use Rattle.comm_value.specs.Decimals.{HasNoDecimal, MembersHaveNoDecimal}
use Rattle.comm_value.specs.declared.fault.ValueFault.{ValueFault}
use Rattle.comm_messages.specs.Content.{Content}
use Rattle.comm_targets.specs.Answers.{answer_of, echo_of, count_answer, plain_of}
use Rattle.comm_targets.specs.Widget as widget
use Rattle.comm_targets.specs.Widget.{state_of, with_buffers, fault_of, given_state, opening_state, is_supported, state_message, update_of, echoes, nothing, one_message, new_state, answer_with, merge_answer, push_answer, update_answer, custom_answer, method_answer, message_answer}
use Rattle.comm_targets.specs.declared.kind.Kind.{Kind}
use Rattle.comm_targets.specs.declared.kind.Kind.TheVariants.{Echo, Counter, Widget, WidgetEcho, Plain, Opaque, Free}
use Rattle.comm_targets.specs.declared.event.Event.{Event}
use Rattle.comm_targets.specs.declared.event.Event.TheVariants as event
use Rattle.comm_targets.specs.declared.answer.Answer.{Answer}
use Rattle.comm_targets.specs.declared.fault.TargetFault.{TargetFault}
use Rattle.comm_targets.specs.declared.fault.TargetFault.TheVariants.{NoState, BadState, WrongVersion, NoMethod, UnknownMethod}
use Rattle.comm_core.proofs.NoDecimals.{got, merged_so, placed_in_so, plain_members_so, paths_so}

-- ---- what a target answers

abbrev pub StateIsSo : Option Members → Type 0
StateIsSo now = IfSome now MembersHaveNoDecimal

abbrev pub BodiesAreSo : List Content → Type 0
BodiesAreSo = AllByRecursion (λ c. MembersHaveNoDecimal c.content)

abbrev pub AnswerIsSo : Answer → Type 0
AnswerIsSo a = StateIsSo a.state × BodiesAreSo a.messages

abbrev pub EventIsSo : Event → Type 0
EventIsSo (event.Open id version body) = MembersHaveNoDecimal body.content
EventIsSo (event.Msg id body) = MembersHaveNoDecimal body.content
EventIsSo (event.Launch id state) = MembersHaveNoDecimal state
EventIsSo (event.Push id state) = MembersHaveNoDecimal state

abbrev Gave : Type 0
Gave = Result Answer TargetFault

answer_is : (a b : Answer) → ◌≡◌ {A = Gave} (Ok a) (Ok b) → AnswerIsSo a → AnswerIsSo b
answer_is a b e h = let same : a ≡ b = cc in subst AnswerIsSo same h

no_answer : (f : TargetFault) (a : Answer) {P : Type 0} → ◌≡◌ {A = Gave} (Err f) (Ok a) → P
no_answer f a e = cc

abbrev Stated : Type 0
Stated = Result Members TargetFault

no_state : (f : TargetFault) (s : Members) {P : Type 0} → ◌≡◌ {A = Stated} (Err f) (Ok s) → P
no_state f s e = cc

same_state : (r s : Members) → ◌≡◌ {A = Stated} (Ok r) (Ok s) → r ≡ s
same_state r s e = cc

abbrev Placing : Type 0
Placing = Result Members ValueFault

with_so : (r : Result (List Path) ValueFault) (bs : List (List ℕ)) (ms s : Members) → MembersHaveNoDecimal ms
    → ◌≡◌ {A = Stated} (result_map_both (λ x. x) fault_of (r >>= λ ps. placed_in ps bs ms)) (Ok s) → MembersHaveNoDecimal s
with_so (Err f) bs ms s h is = no_state _ s is
with_so (Ok ps) bs ms s h is =
    (elim (placed_in ps bs ms) as (λ (p : Placing). placed_in ps bs ms ≡ p → ◌≡◌ {A = Stated} (result_map_both (λ x. x) fault_of p) (Ok s) → MembersHaveNoDecimal s) [
      | Ok r ↦ λ done l. subst MembersHaveNoDecimal (same_state r s l) (placed_in_so ps bs ms r h done)
      | Err f ↦ λ _ l. no_state _ s l
    ]) refl is

state_so : (t : Tree) (c : Content) (s : Members) → HasNoDecimal t → state_of t c ≡ Ok s → MembersHaveNoDecimal s
state_so (dict ms) c s h is = with_so (read_paths (get (codes "buffer_paths") c.content)) c.buffers ms s h is
state_so t c s h is = no_state BadState s is

message_so : (method : List ℕ) (u : Members) → MembersHaveNoDecimal u → MembersHaveNoDecimal (state_message method u).content
message_so method u h = (paths_so (member_paths u), (tt, (plain_members_so u h, tt)))

echoes_so : (echoing : Bool) (u : Members) → MembersHaveNoDecimal u → BodiesAreSo (echoes echoing u)
echoes_so echoing no_members h = tt
echoes_so true (member k t u) h = (message_so (codes "echo_update") (member k t u) h, tt)
echoes_so false (member k t u) h = tt

-- the values under a key, if any
abbrev TreeIsSo : Option Tree → Type 0
TreeIsSo o = (t : Tree) → o ≡ Some t → HasNoDecimal t

given_so : (o : Option Tree) (c : Content) (s : Members) → TreeIsSo o → given_state o c ≡ Ok s → MembersHaveNoDecimal s
given_so None c s h is = no_state NoState s is
given_so (Some t) c s h is = state_so t c s (h t refl) is

opened_so : (b : Bool) (o : Option Tree) (c : Content) (a : Answer) → TreeIsSo o
    → answer_with new_state (cond {A = Stated} b (given_state o c) (Err WrongVersion)) ≡ Ok a → AnswerIsSo a
opened_so false o c a h is = no_answer WrongVersion a is
opened_so true o c a h is =
    (elim (given_state o c) as (λ (r : Stated). given_state o c ≡ r → answer_with new_state r ≡ Ok a → AnswerIsSo a) [
      | Ok s ↦ λ given l. answer_is (new_state s) a l (given_so o c s h given, tt)
      | Err f ↦ λ _ l. no_answer f a l
    ]) refl is

updated_so : (echoing : Bool) (o : Option Tree) (now : Members) (c : Content) (a : Answer) → TreeIsSo o → MembersHaveNoDecimal now
    → update_answer echoing o now c ≡ Ok a → AnswerIsSo a
updated_so echoing None now c a h hs is = answer_is nothing a is (tt, tt)
updated_so echoing (Some t) now c a h hs is =
    (elim (state_of t c) as (λ (r : Stated). state_of t c ≡ r → answer_with (merge_answer echoing now) r ≡ Ok a → AnswerIsSo a) [
      | Ok u ↦ λ told l.
          let so = state_so t c u (h t refl) told in
          answer_is (merge_answer echoing now u) a l (merged_so now u hs so, echoes_so echoing u so)
      | Err f ↦ λ _ l. no_answer f a l
    ]) refl is

custom_so : (o : Option Tree) (bs : List (List ℕ)) → AnswerIsSo (custom_answer o bs)
custom_so None bs = (tt, tt)
custom_so (Some t) bs = (tt, tt)

method_so : (echoing : Bool) (o p : Option Tree) (now : Members) (c : Content) (a : Answer) (b d e : Bool) → TreeIsSo o → MembersHaveNoDecimal now
    → ◌≡◌ {A = Gave} (cond {A = Gave} b (update_answer echoing o now c) (cond {A = Gave} d (Ok (one_message (update_of now))) (cond {A = Gave} e (Ok (custom_answer p c.buffers)) (Err UnknownMethod)))) (Ok a)
    → AnswerIsSo a
method_so echoing o p now c a true d e h hs is = updated_so echoing o now c a h hs is
method_so echoing o p now c a false true e h hs is = answer_is (one_message (update_of now)) a is (tt, (message_so (codes "update") now hs, tt))
method_so echoing o p now c a false false true h hs is = answer_is (custom_answer p c.buffers) a is (custom_so p c.buffers)
method_so echoing o p now c a false false false h hs is = no_answer UnknownMethod a is

told_so : (echoing : Bool) (o : Option Tree) (now : Members) (c : Content) (a : Answer) → MembersHaveNoDecimal c.content → MembersHaveNoDecimal now
    → message_answer echoing o now c ≡ Ok a → AnswerIsSo a
told_so echoing (Some (text method)) now c a h hs is =
    method_so echoing (get (codes "state") c.content) (get (codes "content") c.content) now c a (bytes_eq method (codes "update")) (bytes_eq method (codes "request_state"))
    (bytes_eq method (codes "custom")) (λ t found. got (codes "state") c.content t h found) hs is
told_so echoing None now c a h hs is = no_answer NoMethod a is
told_so echoing (Some t) now c a h hs is = no_answer NoMethod a is

widget_so : (echoing : Bool) (now : Members) (e : Event) (a : Answer) → EventIsSo e → MembersHaveNoDecimal now → widget.answer_of echoing now e ≡ Ok a → AnswerIsSo a
widget_so echoing now (event.Open id version body) a h hs is =
    opened_so (is_supported version) (get (codes "state") body.content) body a (λ t found. got (codes "state") body.content t h found) is
widget_so echoing now (event.Msg id body) a h hs is = told_so echoing (get (codes "method") body.content) now body a h hs is
widget_so echoing now (event.Launch id state) a h hs is = answer_is (new_state state) a is (h, tt)
widget_so echoing now (event.Push id state) a h hs is =
    answer_is (push_answer now state) a is (merged_so now state hs h, (message_so (codes "update") state h, tt))

state_or_none : (now : Option Members) → StateIsSo now → MembersHaveNoDecimal (unwrap_or now no_members)
state_or_none None h = tt
state_or_none (Some s) h = h

echo_so : (e : Event) → EventIsSo e → AnswerIsSo (echo_of e)
echo_so (event.Msg id body) h = (tt, (h, tt))
echo_so (event.Open id version body) h = (tt, tt)
echo_so (event.Launch id state) h = (tt, tt)
echo_so (event.Push id state) h = (tt, tt)

count_so : (n : ℕ) (e : Event) → AnswerIsSo (count_answer n e)
count_so n (event.Msg id body) = (tt, ((tt, tt), tt))
count_so n (event.Open id version body) = (tt, tt)
count_so n (event.Launch id state) = (tt, tt)
count_so n (event.Push id state) = (tt, tt)

plain_so : (e : Event) → AnswerIsSo (plain_of e)
plain_so (event.Msg id body) = (tt, tt)
plain_so (event.Open id version body) = (tt, tt)
plain_so (event.Launch id state) = (tt, tt)
plain_so (event.Push id state) = (tt, tt)

pub answered_so : (k : Kind) (notes : ℕ) (now : Option Members) (e : Event) (a : Answer) → EventIsSo e → StateIsSo now → answer_of k notes now e ≡ Ok a → AnswerIsSo a
answered_so Echo notes now e a h hs is = answer_is (echo_of e) a is (echo_so e h)
answered_so Counter notes now e a h hs is = answer_is (count_answer notes e) a is (count_so notes e)
answered_so Widget notes now e a h hs is = widget_so false (unwrap_or now no_members) e a h (state_or_none now hs) is
answered_so WidgetEcho notes now e a h hs is = widget_so true (unwrap_or now no_members) e a h (state_or_none now hs) is
answered_so Plain notes now e a h hs is = answer_is (plain_of e) a is (plain_so e)
answered_so Opaque notes now e a h hs is = answer_is (plain_of e) a is (plain_so e)
answered_so Free notes now e a h hs is = answer_is nothing a is (tt, tt)
