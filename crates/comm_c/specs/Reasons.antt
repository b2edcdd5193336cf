-- Why a call's reply is bad, refused or a fault: a number with a name, and the number in it. `rolgunai.h` has the same.
use Rattle.std.specs.Prelude.{ℕ}
use Rattle.comm_value.specs.declared.fault.ValueFault.{ValueFault}
use Rattle.comm_value.specs.declared.fault.ValueFault.TheVariants as value
use Rattle.comm_messages.specs.declared.fault.Field.{Field}
use Rattle.comm_messages.specs.declared.fault.Field.TheVariants as field
use Rattle.comm_messages.specs.declared.fault.MessageFault.{MessageFault}
use Rattle.comm_messages.specs.declared.fault.MessageFault.TheVariants as message
use Rattle.comm_targets.specs.declared.fault.TargetFault.{TargetFault}
use Rattle.comm_targets.specs.declared.fault.TargetFault.TheVariants as target
use Rattle.comm_core.specs.declared.reply.Refusal.{Refusal}
use Rattle.comm_core.specs.declared.reply.Refusal.TheVariants as refusal
use Rattle.comm_core.specs.declared.reply.Reply.{Reply}
use Rattle.comm_core.specs.declared.reply.Reply.TheVariants as reply
use Rattle.comm_script.specs.declared.asked.Key.{Key}
use Rattle.comm_script.specs.declared.asked.Key.TheVariants as key
use Rattle.comm_script.specs.declared.asked.LineFault.{LineFault}
use Rattle.comm_script.specs.declared.asked.LineFault.TheVariants as line
use Rattle.comm_c.specs.declared.call_result.CallResult.{CallResult}
use Rattle.comm_c.specs.declared.call_result.CallResult.TheVariants.{Nothing, Bad, Infos, State, Target, Change}

-- the fields that a reason speaks of
abbrev pub field_number : Field → ℕ
field_number field.Content = 0
field_number field.CommId = 1
field_number field.TargetName = 2
field_number field.Body = 3
field_number field.Metadata = 4
field_number field.Buffers = 5

abbrev pub key_number : Key → ℕ
key_number key.Data = 3
key_number key.Buffers = 5
key_number key.Kind = 6
key_number key.Name = 7
key_number key.Uuid = 8
key_number key.State = 9
key_number key.Id = 10

-- memory is never a reason: the call has another status then
abbrev pub message_reason : MessageFault → ℕ × ℕ
message_reason message.NotJson = (1, 0)
message_reason message.NoType = (2, 0)
message_reason message.UnknownType = (3, 0)
message_reason (message.BadContent f) = (4, field_number f)
message_reason message.NotWhole = (5, 0)
message_reason (message.BadBuffer n) = (6, n)
message_reason message.BadClient = (7, 0)
message_reason message.Memory = (0, 0)

abbrev pub value_reason : ValueFault → ℕ × ℕ
value_reason value.NotWhole = (5, 0)
value_reason (value.BadPath n) = (12, n)
value_reason (value.BufferMissing n) = (13, n)
value_reason value.Memory = (0, 0)

abbrev pub line_reason : LineFault → ℕ × ℕ
line_reason (line.Message f) = message_reason f
line_reason line.UnknownCall = (8, 0)
line_reason (line.BadField k) = (9, key_number k)
line_reason line.BadUuid = (10, 0)
line_reason line.NoStock = (11, 0)
line_reason (line.Value f) = value_reason f

abbrev pub target_reason : TargetFault → ℕ × ℕ
target_reason (target.BadPath n) = (12, n)
target_reason (target.BufferMissing n) = (13, n)
target_reason target.WrongVersion = (16, 0)
target_reason target.NoState = (17, 0)
target_reason target.BadState = (18, 0)
target_reason target.NoMethod = (19, 0)
target_reason target.UnknownMethod = (20, 0)
target_reason (target.Other n) = (21, n)
target_reason target.Memory = (0, 0)

abbrev pub refusal_reason : Refusal → ℕ × ℕ
refusal_reason refusal.NoTarget = (14, 0)
refusal_reason refusal.TooManyComms = (15, 0)
refusal_reason (refusal.Fault f) = target_reason f

abbrev pub reply_reason : Reply → ℕ × ℕ
reply_reason (reply.OpenRefused why) = refusal_reason why
reply_reason (reply.Fault f) = target_reason f
reply_reason _ = (0, 0)

abbrev pub reason_of : CallResult → ℕ × ℕ
reason_of Nothing = (0, 0)
reason_of (Bad number fault closes) = line_reason fault
reason_of (Infos client front messages) = (0, 0)
reason_of (State front answer) = (0, 0)
reason_of (Target front name) = (0, 0)
reason_of (Change made) = reply_reason made.reply
