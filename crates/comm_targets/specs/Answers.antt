-- What a target of each kind may answer.
use Rattle.std.specs.Prelude.{◌≡◌, ◌⊎◌, ℕ, pos, Bool, true, false, [], Option, None, Some, unwrap_or, Result, Ok}
use Rattle.std.specs.Prelude.{Err, codes}
use Rattle.comm_messages.specs.Content.{Content}
use Rattle.comm_value.specs.Tree.{whole, Members, no_members, member}
use Rattle.comm_value.specs.declared.val.Val.TheVariants as val
use Rattle.comm_targets.specs.Meaning.{Meaning, one_more}
use Rattle.comm_targets.specs.Widget as widget
use Rattle.comm_targets.specs.Widget.{nothing, one_message}
use Rattle.comm_targets.specs.declared.kind.Kind.{Kind}
use Rattle.comm_targets.specs.declared.kind.Kind.TheVariants.{Echo, Counter, Widget, WidgetEcho, Plain, Opaque, Free}
use Rattle.comm_targets.specs.declared.event.Event.{Event}
use Rattle.comm_targets.specs.declared.event.Event.TheVariants.{Open, Msg}
use Rattle.comm_targets.specs.declared.answer.Answer.{Answer}
use Rattle.comm_targets.specs.declared.answer.Custom.{Custom}
use Rattle.comm_targets.specs.declared.fault.TargetFault.{TargetFault}
use Rattle.comm_targets.specs.declared.fault.TargetFault.TheVariants.{Memory, Other}

-- each message comes back
abbrev pub echo_of : Event → Answer
echo_of (Msg id body) = one_message body
echo_of e = nothing

-- `{"count":n}`
abbrev pub count_of : ℕ → Content
count_of n = record { content = member (codes "count") (whole (pos n)) no_members; buffers = [] }

-- each message is answered with how many came
abbrev pub count_answer : ℕ → Event → Answer
count_answer notes (Msg id body) = one_message (count_of (one_more notes))
count_answer notes e = nothing

-- a message whole, for the caller: its data as a value, and its buffers
abbrev pub payload_of : Content → Custom
payload_of body = record { content = val.Dict body.content; buffers = body.buffers }

-- each message is handed to the caller, and nothing is sent
abbrev pub plain_of : Event → Answer
plain_of (Msg id body) = record { state = None; messages = []; custom = Some (payload_of body) }
plain_of e = nothing

-- the kind of a target that hands on what comes
abbrev pub plain_kind : Bool → Kind
plain_kind true = Opaque
plain_kind false = Plain

-- The one outcome of a kind that has one. Of Free it is one among many.
abbrev pub answer_of : Kind → ℕ → Option Members → Event → Result Answer TargetFault
answer_of Echo notes now e = Ok (echo_of e)
answer_of Counter notes now e = Ok (count_answer notes e)
answer_of Widget notes now e = widget.answer_of false (unwrap_or now no_members) e
answer_of WidgetEcho notes now e = widget.answer_of true (unwrap_or now no_members) e
answer_of Plain notes now e = Ok (plain_of e)
answer_of Opaque notes now e = Ok (plain_of e)
answer_of Free notes now e = Ok nothing

-- a free target hands nothing to the caller where a comm is opened
abbrev pub IsFreeAnswer : Event → Answer → Type 0
IsFreeAnswer (Open id version body) a = a.custom ≡ None
IsFreeAnswer e a = Unit {0}

abbrev pub IsFreeFault : TargetFault → Type 0
IsFreeFault (Other code) = Unit {0}
IsFreeFault f = ⊥

-- the answers that a kind may give
abbrev pub Answers : Kind → ℕ → Option Members → Event → Answer → Type 0
Answers Free notes now e a = IsFreeAnswer e a
Answers kind notes now e a = answer_of kind notes now e ≡ Ok a

-- the faults that it may give, beside Memory
abbrev pub Refuses : Kind → ℕ → Option Members → Event → TargetFault → Type 0
Refuses Free notes now e f = IsFreeFault f
Refuses kind notes now e f = answer_of kind notes now e ≡ Err f

-- the target may answer so, about a comm with this state
abbrev pub MayAnswer : Meaning → Option Members → Event → Answer → Type 0
MayAnswer m now e a = Answers m.kind m.notes now e a

-- the target may refuse so: with Memory, or as its kind does
abbrev pub MayRefuse : Meaning → Option Members → Event → TargetFault → Type 0
MayRefuse m now e f = (f ≡ Memory) ⊎ Refuses m.kind m.notes now e f
