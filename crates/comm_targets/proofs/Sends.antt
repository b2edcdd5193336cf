-- What a target keeps may go to another thread.
use denote.Param.Send.{IsSend, sendable}
use denote.Param.SendFields.{declared_send}
use Rattle.std.proofs.Crossing
use Rattle.std.proofs.alloc.Global.TheSendSync as global
use Rattle.std.proofs.option.Option.TheSendSync as option
use Rattle.comm_targets.specs.contracts.open_comms.OpenComms as comms
use Rattle.comm_targets.specs.contracts.open_comms.OpenComms.TheInside as inside
use Rattle.comm_targets.specs.contracts.echo.Echo as echo
use Rattle.comm_targets.specs.contracts.counter.Counter as counter
use Rattle.comm_targets.specs.contracts.latest.Latest as latest
use Rattle.comm_targets.specs.contracts.plain.PlainTarget as plain

inside_sends : IsSend inside.the_row
inside_sends = declared_send inside.the_type (
  search (Crossing.crosses, sendable) depth 60 fits 20000,
  (
    search (option.the_field_send, option.the_send, sendable) depth 60 fits 20000,
    (search (option.the_field_send, option.the_send, Crossing.crosses, sendable) depth 60 fits 20000, tt),
  ),
)

pub open_comms_sends : IsSend comms.the_row
open_comms_sends = search (inside_sends, sendable) depth 60 fits 20000

pub echo_sends : IsSend echo.the_row
echo_sends = search (open_comms_sends, global.the_field_send, sendable) depth 60 fits 20000

pub counter_sends : IsSend counter.the_row
counter_sends = search (open_comms_sends, global.the_field_send, sendable) depth 60 fits 20000

pub latest_sends : IsSend latest.the_row
latest_sends = search (open_comms_sends, global.the_field_send, sendable) depth 60 fits 20000

pub plain_sends : IsSend plain.the_row
plain_sends = search (open_comms_sends, global.the_field_send, sendable) depth 60 fits 20000
