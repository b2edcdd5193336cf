-- The result of a call as values: its text, the messages that it sends, and its number for C.
use Rattle.std.specs.Prelude.{ℕ, List, [], ◌++◌, Option, Some, None}
use Rattle.comm_messages.specs.declared.outgoing.Outgoing.{Outgoing}
use Rattle.comm_messages.specs.declared.outgoing.Parent.TheVariants as parent
use Rattle.comm_targets.specs.declared.answer.Custom.{Custom}
use Rattle.comm_core.specs.Machine.{Name}
use Rattle.comm_core.specs.declared.reply.Reply.{Reply}
use Rattle.comm_core.specs.declared.reply.Reply.TheVariants as reply
use Rattle.comm_core.specs.declared.reply.StateAnswer.{StateAnswer}
use Rattle.comm_core.specs.declared.reply.StateAnswer.TheVariants as answer
use Rattle.comm_script.specs.Words.{bad_line, out_lines, reply_line, state_line}
use Rattle.comm_c.specs.declared.call_result.CallResult.{CallResult}
use Rattle.comm_c.specs.declared.call_result.CallResult.TheVariants.{Nothing, Bad, Infos, State, Target, Change}

-- its text, which is a script's; the close of an open that can't be read is no part of it, and no script asks for a
-- comm's target alone
abbrev pub result_text : CallResult → List ℕ
result_text Nothing = []
result_text (Bad number fault closes) = bad_line number fault
result_text (Infos client front messages) = out_lines messages (parent.Read client front)
result_text (State front read) = state_line front read
result_text (Target front name) = []
result_text (Change made) = reply_line made.number made.reply ++ out_lines made.sent (parent.Call made.client made.call)

-- the messages that it sends
abbrev pub sent : CallResult → List Outgoing
sent Nothing = []
sent (Bad number fault closes) = closes
sent (Infos client front messages) = messages
sent (State front read) = []
sent (Target front name) = []
sent (Change made) = made.sent

-- ---- the reply by its number; `rolgunai.h` has the same

abbrev pub delivered_number : Option Custom → ℕ
delivered_number None = 8
delivered_number (Some custom) = 9

abbrev pub reply_number : Reply → ℕ
reply_number reply.Registered = 3
reply_number (reply.Replaced ids) = 4
reply_number reply.Opened = 5
reply_number reply.IdInUse = 6
reply_number (reply.OpenRefused why) = 7
reply_number (reply.Delivered custom) = delivered_number custom
reply_number (reply.Fault fault) = 10
reply_number reply.NoComm = 11
reply_number reply.Closed = 12
reply_number (reply.Unregistered ids) = 13
reply_number reply.NoTarget = 14
reply_number reply.Launched = 15
reply_number reply.NotWidget = 16

abbrev pub state_number : StateAnswer → ℕ
state_number answer.NoComm = 11
state_number answer.NoState = 18
state_number (answer.State s) = 17

abbrev pub target_number : Option Name → ℕ
target_number None = 11
target_number (Some name) = 19

abbrev pub result_number : CallResult → ℕ
result_number Nothing = 0
result_number (Bad number fault closes) = 1
result_number (Infos client front messages) = 2
result_number (State front read) = state_number read
result_number (Target front name) = target_number name
result_number (Change made) = reply_number made.reply
