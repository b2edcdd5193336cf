-- Both sides of a queue may go to another thread.
use denote.Param.Send.{IsSend, sendable}
use Rattle.std.proofs.Crossing.{crosses}
use Rattle.atomic_table.proofs.shared.Seat.TheSendSync as Seat
use Rattle.crossbeam_queue.proofs.array_queue.Slotted.TheSendSync as Slotted
use Rattle.comm_core.proofs.Crossing.{entry_send, entry_sync}
use Rattle.comm_outbox.specs.contracts.outgoing.Outbox as outbox
use Rattle.comm_outbox.specs.contracts.publisher.Publisher as publisher

ruleset parts = (sendable, crosses, Slotted.the_send, Slotted.the_sync, Seat.the_send, entry_send, entry_sync)

pub outbox_send : IsSend outbox.the_row
outbox_send = search parts depth 40

pub publisher_send : IsSend publisher.the_row
publisher_send = search parts depth 40

-- what a thread that is started with a side of a queue asks for
pub ruleset queued = (outbox_send, publisher_send, entry_send, entry_sync, sendable, crosses)
