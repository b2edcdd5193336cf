-- A client may go to another thread, and so may a manager of targets that may.
use denote.RattleType.{RattleType}
use denote.Struct.Declared.{shape}
use denote.Param.Send.{IsSend, IsSync, recorded_send, recorded_sync, struct_send, struct_sync, sendable}
use Rattle.std.proofs.Crossing.{crosses}
use Rattle.counted_slot.proofs.Counted.TheSendSync as Counted
use Rattle.comm_core.proofs.Crossing.{dict_send}
use Rattle.comm_core.proofs.target_table.TargetTable.TheSendSync as Boxes
use Rattle.comm_core.specs.contracts.comm.Comm as comm
use Rattle.comm_core.specs.contracts.comms.Comms as comms
use Rattle.comm_core.specs.contracts.manager.Core as core
use Rattle.comm_messages.proofs.infos.Infos.TheSendSync as Infos
use Rattle.comm_targets.specs.declared.target.Target as target
use Rattle.comm_value.proofs.text.Text.TheSendSync as Text
use Rattle.comm_versions.proofs.Crossing.{comm_table_send, comm_table_sync, table_buffers_send}
use Rattle.comm_versions.proofs.history.RawHead.TheSendSync as RawHead
use Rattle.comm_versions.proofs.raw_front.RawFront.TheSendSync as RawFront
use Rattle.comm_versions.specs.contracts.version.Version as version
use Rattle.ordered_table.proofs.table.Table.TheSendSync as Table
use Rattle.comm_shared.specs.contracts.client.SharedClient as client
use Rattle.comm_shared.specs.contracts.manager.SharedManager as manager
use Rattle.comm_shared.specs.contracts.reader.SharedReader as reader
use Rattle.comm_shared.specs.contracts.shown_version.ShownVersion as shown
use Rattle.comm_shared.specs.contracts.writer.SharedWriter as writer

version_field_send : IsSend (version.the_field).row
version_field_send = search (sendable, crosses, comm_table_send, comm_table_sync, RawFront.the_send) depth 40

version_field_sync : IsSync (version.the_field).row
version_field_sync = search (sendable, crosses, comm_table_send, comm_table_sync, RawFront.the_sync) depth 40

shown_send : IsSend shown.the_row
shown_send = recorded_send (shown.the_field).row _ _ (shown.the_type).to_one (struct_send (shape shown.the_type) (version_field_send, tt))

shown_sync : IsSync shown.the_row
shown_sync = recorded_sync (shown.the_field).row _ _ (shown.the_type).to_one (struct_sync (shape shown.the_type) (version_field_sync, tt))

pub reader_send : IsSend reader.the_row
reader_send = search (sendable, crosses, RawFront.the_send, RawFront.the_sync, shown_send, shown_sync, Counted.the_send, Counted.the_sync) depth 60 fits 20000

pub client_send : IsSend client.the_row
client_send = search (sendable, crosses, reader_send) depth 60 fits 20000

comm_send : IsSend comm.the_row
comm_send = search (sendable, crosses, dict_send, Text.the_send) depth 40

comms_send : IsSend comms.the_row
comms_send = search (sendable, crosses, comm_send, Text.the_send, Table.the_send, Infos.the_send) depth 40 fits 5000

pub core_send : (T : RattleType) (t : target.Ghosts T.Denot) → IsSend T → IsSend (core.the_row T t)
core_send T t s = search (sendable, crosses, comms_send, Boxes.the_send) depth 40

writer_send : IsSend writer.the_row
writer_send = search (sendable, crosses, RawFront.the_send, RawFront.the_sync, RawHead.the_send, table_buffers_send, shown_send, shown_sync, Counted.the_send, Counted.the_sync) depth 60 fits 20000

pub manager_send : (T : RattleType) (t : target.Ghosts T.Denot) → IsSend T → IsSend (manager.the_row T t)
manager_send T t s = let c = core_send T t s in search (sendable, crosses, writer_send) depth 60 fits 20000
