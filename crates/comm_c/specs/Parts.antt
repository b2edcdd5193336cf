-- The parts of a message that is sent and of a reply, by their numbers. `rolgunai.h` has the same.
use Rattle.std.specs.Prelude.{ℕ, ◌-◌, ◌==◌, List, [], Option, Some, None, if◌then◌else◌}
use Rattle.std.specs.Prelude.{nat_lt, slice_get, option_and_then}
use Rattle.json.specs.Json.{array, object}
use Rattle.comm_json.specs.Text.{compact_text}
use Rattle.comm_value.specs.Places.{member_buffers}
use Rattle.comm_value.specs.ToJson.{json_of}
use Rattle.comm_value.specs.Tree.{Members}
use Rattle.comm_value.specs.View.{tree}
use Rattle.comm_messages.specs.Text.{parts_of, texts}
use Rattle.comm_messages.specs.declared.outgoing.Outgoing.{Outgoing}
use Rattle.comm_messages.specs.declared.outgoing.Outgoing.TheVariants as out
use Rattle.comm_targets.specs.declared.answer.Custom.{Custom}
use Rattle.comm_core.specs.Machine.{Name}
use Rattle.comm_core.specs.declared.reply.Reply.{Reply}
use Rattle.comm_core.specs.declared.reply.Reply.TheVariants as reply
use Rattle.comm_core.specs.declared.reply.StateAnswer.{StateAnswer}
use Rattle.comm_core.specs.declared.reply.StateAnswer.TheVariants as answer
use Rattle.comm_script.specs.Words.{state_content}
use Rattle.comm_c.specs.CallResult.{sent}
use Rattle.comm_c.specs.declared.call_result.CallResult.{CallResult}
use Rattle.comm_c.specs.declared.call_result.CallResult.TheVariants.{Nothing, Bad, Infos, State, Target, Change}
use Rattle.comm_c.specs.declared.call_result.MadeChange.{MadeChange}

-- ---- of a message that is sent

-- the id of the comm that it is about; a list of comms has none
abbrev pub id_in : Outgoing → List ℕ
id_in (out.Open id target version body) = id
id_in (out.Msg id body) = id
id_in (out.Close id) = id
id_in (out.InfoReply comms) = []

-- its type, its comm's id, its content and metadata as JSON, and its binary buffers from 5 on
abbrev pub message_part : Outgoing → ℕ → Option (List ℕ)
message_part m n =
    if n == 0 then Some (parts_of m).type
    else if n == 1 then Some (id_in m)
    else if n == 2 then Some (compact_text (object (parts_of m).content))
    else if n == 3 then Some (compact_text (object (parts_of m).metadata))
    else if n == 4 then None
    else slice_get (parts_of m).buffers (n - 5)

-- by the message's number
abbrev pub part_sent : CallResult → ℕ → ℕ → Option (List ℕ)
part_sent s message part = option_and_then (λ m. message_part m part) (slice_get (sent s) message)

-- ---- of a reply: content as JSON at 2, and binary buffers from 5 on

-- a message for the kernel
abbrev pub custom_part : Custom → ℕ → Option (List ℕ)
custom_part custom n =
    if n == 2 then Some (compact_text (json_of (tree custom.content)))
    else if nat_lt n 5 then None
    else slice_get custom.buffers (n - 5)

-- the ids of the comms that were closed
abbrev pub ids_part : List (List ℕ) → ℕ → Option (List ℕ)
ids_part ids n = if n == 2 then Some (compact_text (array (texts ids))) else None

abbrev pub delivered_part : Option Custom → ℕ → Option (List ℕ)
delivered_part None n = None
delivered_part (Some custom) n = custom_part custom n

abbrev pub reply_part : Reply → ℕ → Option (List ℕ)
reply_part reply.Registered n = None
reply_part (reply.Replaced ids) n = ids_part ids n
reply_part reply.Opened n = None
reply_part reply.IdInUse n = None
reply_part (reply.OpenRefused why) n = None
reply_part (reply.Delivered custom) n = delivered_part custom n
reply_part (reply.Fault fault) n = None
reply_part reply.NoComm n = None
reply_part reply.Closed n = None
reply_part (reply.Unregistered ids) n = ids_part ids n
reply_part reply.NoTarget n = None
reply_part reply.Launched n = None
reply_part reply.NotWidget n = None

-- the comm's id at 1, the target's name at 4
abbrev pub change_part : MadeChange → ℕ → Option (List ℕ)
change_part made n =
    if n == 1 then made.subject.comm
    else if n == 4 then made.subject.target
    else reply_part made.reply n

-- a state, with its buffers beside it
abbrev pub members_part : Members → ℕ → Option (List ℕ)
members_part s n =
    if n == 2 then Some (compact_text (state_content s))
    else if nat_lt n 5 then None
    else slice_get (member_buffers s) (n - 5)

abbrev pub state_part : StateAnswer → ℕ → Option (List ℕ)
state_part answer.NoComm n = None
state_part answer.NoState n = None
state_part (answer.State s) n = members_part s n

-- the name of a comm's target at 4
abbrev pub target_part : Option Name → ℕ → Option (List ℕ)
target_part name n = if n == 4 then name else None

abbrev pub part_replied : CallResult → ℕ → Option (List ℕ)
part_replied Nothing n = None
part_replied (Bad number fault closes) n = None
part_replied (Infos client front messages) n = None
part_replied (State front read) n = state_part read n
part_replied (Target front name) n = target_part name n
part_replied (Change made) n = change_part made n
