-- What a widget target keeps may go to another thread.
use denote.Param.Send.{IsSend, sendable}
use Rattle.std.proofs.alloc.Global.TheSendSync as global
use Rattle.comm_targets.proofs.Sends.{open_comms_sends}
use Rattle.widget_target.specs.contracts.widget.WidgetTarget as widget

pub widget_sends : IsSend widget.the_row
widget_sends = search (open_comms_sends, global.the_field_send, sendable) depth 60 fits 20000
