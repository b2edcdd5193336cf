-- One call of a comm manager.
--
-- A comm is opened, told and closed by 'comm_open', 'comm_msg' and 'comm_close' ('Messaging in Jupyter' 5.3, "Custom
-- Messages"); whoever is sent an open for a target name that it doesn't know answers at once with 'comm_close'. As
-- ipykernel's comm manager does, an open that its target refuses closes the comm, a message or a close for an id that
-- no comm has is only noted, and a fault in a message leaves the comm open. The register of a name that a target has
-- replaces that target. This manager's own rules: the open of an id that is in use is refused, and no close goes out,
-- since that would end the live comm; to unregister or to replace a target closes its comms in the order of opening;
-- the kernel opens comms towards widgets alone.
use Rattle.std.specs.Prelude.{ℕ, Bool, true, false, not, nat_le, length, map, List, [], ◌∷◌, ◌++◌, Option}
use Rattle.std.specs.Prelude.{Some, None, Result, Ok, Err, codes, if◌then◌else◌}
use Rattle.uuid.specs.Text.{hyphenated_text, lower}
use Rattle.comm_value.specs.Tree.{Members, no_members, member, dict}
use Rattle.comm_value.specs.Places.{member_paths, member_buffers, plain_members}
use Rattle.comm_value.specs.Paths.{paths_tree}
use Rattle.comm_messages.specs.Content.{Content}
use Rattle.comm_messages.specs.declared.outgoing.Outgoing.{Outgoing}
use Rattle.comm_messages.specs.declared.outgoing.Outgoing.TheVariants as out
use Rattle.comm_targets.specs.Meaning.{is_widget, notes_after}
use Rattle.comm_targets.specs.Answers.{Answers, Refuses}
use Rattle.comm_targets.specs.declared.kind.Kind.{Kind}
use Rattle.comm_targets.specs.declared.event.Event.{Event}
use Rattle.comm_targets.specs.declared.event.Event.TheVariants as event
use Rattle.comm_targets.specs.declared.answer.Answer.{Answer}
use Rattle.comm_targets.specs.declared.fault.TargetFault.{TargetFault}
use Rattle.comm_core.specs.Machine.{Name, Registered, Machine, at, has, without, with_at, ids_of, others}
use Rattle.comm_core.specs.declared.comm.Comm.{Comm}
use Rattle.comm_core.specs.declared.target_request.TargetRequest.{TargetRequest}
use Rattle.comm_core.specs.declared.call.Call.{Call}
use Rattle.comm_core.specs.declared.call.Call.TheVariants.{Register, Open, Msg, Close, Unregister, Launch}
use Rattle.comm_core.specs.declared.call.Call.TheVariants.{Push, Send, HangUp}
use Rattle.comm_core.specs.declared.reply.Refusal.{Refusal}
use Rattle.comm_core.specs.declared.reply.Refusal.TheVariants as refusal
use Rattle.comm_core.specs.declared.reply.Reply.{Reply}
use Rattle.comm_core.specs.declared.reply.Reply.TheVariants as reply

-- ---- how a call changes the machine

abbrev pub with_target : Machine → Name → Kind → ℕ → Machine
with_target m name kind notes = record {
  targets = m.targets ++ (name, record { kind = kind; notes = notes }) ∷ [];
  comms = m.comms;
}

-- in the place of the target of this name, with no comm
abbrev pub with_another : Machine → Name → Kind → ℕ → Machine
with_another m name kind notes = record {
  targets = with_at m.targets name (record { kind = kind; notes = notes });
  comms = others name m.comms;
}

abbrev pub without_target : Machine → Name → Machine
without_target m name = record { targets = without m.targets name; comms = others name m.comms }

abbrev pub with_comm : Machine → Name → Name → Option Members → Machine
with_comm m id target state = record {
  targets = m.targets;
  comms = m.comms ++ (id, record { target = target; state = state }) ∷ [];
}

abbrev pub without_comm : Machine → Name → Machine
without_comm m id = record { targets = m.targets; comms = without m.comms id }

-- the comm's new state, where the answer has one
abbrev pub stated : List (Name × Comm) → Name → Name → Option Members → List (Name × Comm)
stated comms id target None = comms
stated comms id target (Some s) = with_at comms id (record { target = target; state = Some s })

-- the target's notes after the event
abbrev pub noted : List (Name × Registered) → Name → Event → Option Registered → List (Name × Registered)
noted targets name e None = targets
noted targets name e (Some r) = with_at targets name (record { kind = r.kind; notes = notes_after r.kind r.notes e })

abbrev pub with_answer : Machine → Name → Name → Event → Answer → Machine
with_answer m id target e a = record {
  targets = noted m.targets target e (at m.targets target);
  comms = stated m.comms id target a.state;
}

-- ---- what a call comes to before a target is asked

pub data Verdict : Type 0 where
  -- the reply, what goes out, and the machine after it
  Done : Reply → List Outgoing → Machine → Verdict
  -- the target's outcome decides
  AskTarget : TargetRequest → Verdict

-- nothing changes, and nothing goes out
abbrev pub stays : Machine → Reply → Verdict
stays m r = Done r [] m

abbrev pub is_full : ℕ → Machine → Bool
is_full limit m = nat_le limit (length m.comms)

-- nothing changes, and the frontend is told to close
abbrev pub refused_open : Machine → Name → Refusal → Verdict
refused_open m id why = Done (reply.OpenRefused why) (out.Close id ∷ []) m

abbrev pub of_comm : Machine → Option Comm → (Comm → Verdict) → Verdict
of_comm m None of = stays m reply.NoComm
of_comm m (Some c) of = of c

-- a widget is registered there
abbrev pub holds_widget : Option Registered → Bool
holds_widget None = false
holds_widget (Some r) = is_widget r.kind

-- the comm id of a UUID: its hyphenated text, in small letters
abbrev pub comm_id : List ℕ → Name
comm_id uuid = hyphenated_text lower uuid

-- the first of a call's tests that holds, or else what the call does
abbrev pub judged : ℕ → Machine → Call → Verdict
judged limit m (Register name kind notes) =
    if has m.targets name
    then Done (reply.Replaced (ids_of name m.comms)) (map out.Close (ids_of name m.comms))
    (with_another m name kind notes)
    else Done reply.Registered [] (with_target m name kind notes)
judged limit m (Open id target version body) =
    if has m.comms id then stays m reply.IdInUse
    else if not (has m.targets target) then refused_open m id refusal.NoTarget
    else if is_full limit m then refused_open m id refusal.TooManyComms
    else AskTarget (record { name = target; state = None; event = event.Open id version body })
judged limit m (Msg id body) =
    of_comm m (at m.comms id) (λ c. AskTarget (record { name = c.target; state = c.state; event = event.Msg id body }))
judged limit m (Close id) = of_comm m (at m.comms id) (λ c. Done reply.Closed [] (without_comm m id))
judged limit m (Unregister name) =
    if has m.targets name
    then Done (reply.Unregistered (ids_of name m.comms)) (map out.Close (ids_of name m.comms)) (without_target m name)
    else stays m reply.NoTarget
judged limit m (Launch uuid target state) =
    if has m.comms (comm_id uuid) then stays m reply.IdInUse
    else if not (has m.targets target) then stays m reply.NoTarget
    else if not (holds_widget (at m.targets target)) then stays m reply.NotWidget
    else if is_full limit m then stays m (reply.OpenRefused refusal.TooManyComms)
    else AskTarget (record { name = target; state = None; event = event.Launch (comm_id uuid) state })
judged limit m (Push id state) =
    of_comm m (at m.comms id)
    (λ c. if holds_widget (at m.targets c.target)
    then AskTarget (record { name = c.target; state = c.state; event = event.Push id state })
    else stays m reply.NotWidget)
judged limit m (Send id body) = of_comm m (at m.comms id) (λ c. Done (reply.Delivered None) (out.Msg id body ∷ []) m)
judged limit m (HangUp id) = of_comm m (at m.comms id) (λ c. Done reply.Closed (out.Close id ∷ []) (without_comm m id))

-- ---- the step

-- what a target gave
abbrev pub Outcome : Type 0
Outcome = Result Answer TargetFault

pub record Stepped : Type 0 where
  pub reply : Reply
  pub outgoing : List Outgoing
  pub next : Machine

abbrev pub messages_of : Name → List Content → List Outgoing
messages_of id messages = map (λ body. out.Msg id body) messages

-- the body of the message by which the kernel opens a widget's comm ('Jupyter widgets messaging protocol' 2.1.0,
-- "Instantiating a widget object")
abbrev pub opening_of : Members → Content
opening_of s = record {
  content =
      member (codes "buffer_paths") (paths_tree (member_paths s))
      (member (codes "state") (dict (plain_members s)) no_members);
  buffers = member_buffers s;
}

abbrev pub answer_step : Machine → Name → Event → Answer → Stepped
answer_step m target (event.Open id version body) a = record {
  reply = reply.Opened;
  outgoing = messages_of id a.messages;
  next = with_comm m id target a.state;
}
answer_step m target (event.Msg id body) a = record {
  reply = reply.Delivered a.custom;
  outgoing = messages_of id a.messages;
  next = with_answer m id target (event.Msg id body) a;
}
answer_step m target (event.Launch id state) a = record {
  reply = reply.Launched;
  outgoing = out.Open id target (codes "2.1.0") (opening_of state) ∷ [];
  next = with_comm m id target a.state;
}
answer_step m target (event.Push id state) a = record {
  reply = reply.Delivered None;
  outgoing = messages_of id a.messages;
  next = with_answer m id target (event.Push id state) a;
}

-- a widget refuses neither of the kernel's own events
abbrev pub refusal_step : Machine → Event → TargetFault → Option Stepped
refusal_step m (event.Open id version body) f =
    Some (record { reply = reply.OpenRefused (refusal.Fault f); outgoing = out.Close id ∷ []; next = m })
refusal_step m (event.Msg id body) f = Some (record { reply = reply.Fault f; outgoing = []; next = m })
refusal_step m (event.Launch id state) f = None
refusal_step m (event.Push id state) f = None

-- none where an outcome is missing, or is there though no target is asked
abbrev pub stepped : Machine → Verdict → Option Outcome → Option Stepped
stepped m (Done r out next) None = Some (record { reply = r; outgoing = out; next = next })
stepped m (AskTarget q) (Some (Ok a)) = Some (answer_step m q.name q.event a)
stepped m (AskTarget q) (Some (Err f)) = refusal_step m q.event f
stepped m v o = None

-- at most `limit` comms are open at a time
abbrev pub step : ℕ → Machine → Call → Option Outcome → Option Stepped
step limit m call outcome = stepped m (judged limit m call) outcome

-- the replies of the calls that are done; any other leaves the machine as it was
abbrev pub is_done : Reply → Bool
is_done reply.Registered = true
is_done (reply.Replaced ids) = true
is_done reply.Opened = true
is_done (reply.Delivered custom) = true
is_done reply.Closed = true
is_done (reply.Unregistered ids) = true
is_done reply.Launched = true
is_done r = false

-- ---- which outcomes are allowed

abbrev pub request_of : Verdict → Option TargetRequest
request_of (AskTarget q) = Some q
request_of (Done r out next) = None

-- which target is asked, and what
abbrev pub asks : ℕ → Machine → Call → Option TargetRequest
asks limit m call = request_of (judged limit m call)

abbrev pub Gives : Option Registered → TargetRequest → Outcome → Type 0
Gives None q o = ⊥
Gives (Some r) q (Ok a) = Answers r.kind r.notes q.state q.event a
Gives (Some r) q (Err f) = Refuses r.kind r.notes q.state q.event f

-- an outcome is there exactly where a target is asked, and it is one that its kind may give
abbrev pub Allowed : Machine → Option TargetRequest → Option Outcome → Type 0
Allowed m None None = Unit {0}
Allowed m (Some q) (Some o) = Gives (at m.targets q.name) q o
Allowed m q o = ⊥
