-- A scripted target may go to another thread.
use denote.Param.Send.{IsSend, sendable}
use Rattle.std.proofs.Crossing
use Rattle.std.proofs.alloc.Global.TheSendSync as global
use Rattle.std.proofs.option.Option.TheSendSync as option
use Rattle.comm_targets.proofs.Sends.{open_comms_sends}
use Rattle.test_harness.specs.contracts.scripted_target.ScriptedTarget as scripted

pub scripted_sends : IsSend scripted.the_row
scripted_sends = search (open_comms_sends, global.the_field_send, option.the_field_send, Crossing.crosses, sendable) depth 60 fits 20000
