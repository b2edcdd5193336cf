-- Calls, replies and entries may cross threads. The kit makes no such fact by itself of a type that holds a `Dict` or a `Val`, which lead back to
-- themselves, and a search over a whole entry, at each caller, would give up.
use denote.Param.Send.{IsSend, IsSync, sendable}
use Rattle.std.proofs.Crossing.{crosses}
use denote.Hole.{as_row}
use denote.Param.SendFields.{variants_send, variants_sync}
use Rattle.std.specs.contracts.option.Option as option
use Rattle.std.specs.contracts.result.Result as result
use Rattle.comm_value.proofs.text.Text.TheSendSync as Text
use Rattle.comm_value.proofs.chars.Chars.TheSendSync as Chars
use Rattle.comm_value.proofs.buffer.Bytes.TheSendSync as Bytes
use Rattle.comm_value.proofs.buffer.Buffers.TheSendSync as Buffers
use Rattle.comm_value.proofs.whole.Whole.TheSendSync as Whole
use Rattle.comm_value.proofs.decimal.Decimal.TheSendSync as Decimal
use Rattle.comm_value.proofs.val.Dict.TheLaws.TheKnot as knot
use Rattle.comm_value.specs.contracts.val.Dict as dict
use Rattle.comm_value.specs.contracts.val.Val as val
use Rattle.comm_messages.specs.contracts.body.Body as body
use Rattle.comm_messages.specs.contracts.infos.Infos as infos
use Rattle.comm_messages.specs.contracts.outgoing.Outgoing as outgoing
use Rattle.comm_messages.specs.contracts.outgoing_body.OutgoingBody as outgoing_body
use Rattle.comm_targets.specs.contracts.answer.Answer as answer
use Rattle.comm_targets.specs.contracts.answer.Bodies as bodies
use Rattle.comm_targets.specs.contracts.answer.Custom as custom
use Rattle.comm_targets.specs.contracts.fault.TargetFault as fault
use Rattle.comm_targets.specs.contracts.shared_custom.SharedCustom as shared
use Rattle.uuid.specs.contracts.Uuid as uuid
use Rattle.comm_core.specs.contracts.call.Call as call
use Rattle.comm_core.specs.contracts.entry.Entry as entry
use Rattle.comm_core.specs.contracts.entry.Outgoings as outgoings
use Rattle.comm_core.specs.contracts.kept_answer.KeptAnswer as kept
use Rattle.comm_core.specs.contracts.reply.Reply as reply

pub ruleset leaves = (
  sendable,
  crosses,
  Text.the_send,
  Text.the_sync,
  Chars.the_send,
  Chars.the_sync,
  Bytes.the_send,
  Bytes.the_sync,
  Buffers.the_send,
  Buffers.the_sync,
  Whole.the_send,
  Whole.the_sync,
  Decimal.the_send,
  Decimal.the_sync,
)

pub dict_send : IsSend dict.the_row
dict_send = search (leaves, knot.crosses) depth 40

pub dict_sync : IsSync dict.the_row
dict_sync = search (leaves, knot.crosses) depth 40

pub val_send : IsSend val.the_row
val_send = search (leaves, knot.crosses) depth 40

pub val_sync : IsSync val.the_row
val_sync = search (leaves, knot.crosses) depth 40

pub ruleset values = (leaves, dict_send, dict_sync, val_send, val_sync)

pub body_send : IsSend body.the_row
body_send = search values depth 40

pub body_sync : IsSync body.the_row
body_sync = search values depth 40

pub outgoing_body_send : IsSend outgoing_body.the_row
outgoing_body_send = search (values, body_send) depth 40

pub outgoing_body_sync : IsSync outgoing_body.the_row
outgoing_body_sync = search (values, body_sync) depth 40

pub uuid_send : IsSend uuid.the_row
uuid_send = search (sendable, crosses) depth 40

pub uuid_sync : IsSync uuid.the_row
uuid_sync = search (sendable, crosses) depth 40

pub call_send : IsSend call.the_row
call_send = search (values, body_send, uuid_send) depth 40

pub call_sync : IsSync call.the_row
call_sync = search (values, body_sync, uuid_sync) depth 40

pub fault_send : IsSend fault.the_row
fault_send = search (sendable, crosses) depth 40

pub fault_sync : IsSync fault.the_row
fault_sync = search (sendable, crosses) depth 40

pub custom_send : IsSend custom.the_row
custom_send = search (values, knot.crosses) depth 40

pub custom_sync : IsSync custom.the_row
custom_sync = search (values, knot.crosses) depth 40

pub shared_send : IsSend shared.the_row
shared_send = search (values, custom_send, custom_sync) depth 40

pub shared_sync : IsSync shared.the_row
shared_sync = search (values, custom_send, custom_sync) depth 40

pub bodies_send : IsSend bodies.the_row
bodies_send = search (values, outgoing_body_send) depth 40

pub bodies_sync : IsSync bodies.the_row
bodies_sync = search (values, outgoing_body_sync) depth 40

pub answer_send : IsSend answer.the_row
answer_send = search (values, shared_send, bodies_send) depth 40

pub answer_sync : IsSync answer.the_row
answer_sync = search (values, shared_sync, bodies_sync) depth 40

pub reply_send : IsSend reply.the_row
reply_send = search (values, shared_send, fault_send) depth 40

pub reply_sync : IsSync reply.the_row
reply_sync = search (values, shared_sync, fault_sync) depth 40

pub infos_send : IsSend infos.the_row
infos_send = search leaves depth 40

pub infos_sync : IsSync infos.the_row
infos_sync = search leaves depth 40

pub outgoing_send : IsSend outgoing.the_row
outgoing_send = search (values, outgoing_body_send, infos_send) depth 40

pub outgoing_sync : IsSync outgoing.the_row
outgoing_sync = search (values, outgoing_body_sync, infos_sync) depth 40

pub outgoings_send : IsSend outgoings.the_row
outgoings_send = search (leaves, outgoing_send) depth 40

pub outgoings_sync : IsSync outgoings.the_row
outgoings_sync = search (leaves, outgoing_sync) depth 40

pub kept_send : IsSend kept.the_row
kept_send = search (values, shared_send) depth 40

pub kept_sync : IsSync kept.the_row
kept_sync = search (values, shared_sync) depth 40

pub outcome_send : IsSend (option.the_row (result.the_row kept.the_row fault.the_row))
outcome_send = search (sendable, crosses, kept_send, fault_send) depth 40

pub outcome_sync : IsSync (option.the_row (result.the_row kept.the_row fault.the_row))
outcome_sync = search (sendable, crosses, kept_sync, fault_sync) depth 40

pub call_field_send : IsSend (as_row call.the_field)
call_field_send = call_send

pub call_field_sync : IsSync (as_row call.the_field)
call_field_sync = call_sync

pub reply_field_send : IsSend (as_row reply.the_field)
reply_field_send = reply_send

pub reply_field_sync : IsSync (as_row reply.the_field)
reply_field_sync = reply_sync

pub entry_send : IsSend entry.the_row
entry_send = variants_send entry.enum (search (sendable, crosses, call_field_send, outcome_send, reply_field_send, outgoings_send) depth 40)

pub entry_sync : IsSync entry.the_row
entry_sync = variants_sync entry.enum (search (sendable, crosses, call_field_sync, outcome_sync, reply_field_sync, outgoings_sync) depth 40)
