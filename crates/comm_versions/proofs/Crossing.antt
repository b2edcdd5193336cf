-- The writer of versions and their readers may cross threads. (A struct that stands in a struct goes by its fact for
-- fields.)
use denote.RattleType.{RattleType}
use denote.Struct.Declared.{shape}
use denote.Param.Send.{IsSend, IsSync, recorded_send, sendable, struct_send, view_send}
use Rattle.std.proofs.Crossing.{crosses}
use Rattle.std.specs.contracts.alloc.Global as global
use Rattle.std.specs.contracts.impls.GlobalAllocator.TheImpl.{ghosts}
use Rattle.std.specs.contracts.option.Option as option
use Rattle.std.specs.contracts.sync.Arc as arc
use Rattle.comm_value.proofs.text.Text.TheSendSync as Text
use Rattle.comm_core.specs.contracts.row.Opened as opened
use Rattle.comm_core.specs.contracts.ids.Ids as ids
use Rattle.comm_core.specs.contracts.row.OpenComm as open_comm
use Rattle.comm_core.specs.contracts.row.Row as row
use Rattle.comm_versions.specs.declared.history.History as history
use Rattle.comm_versions.specs.contracts.adding.PendingEntry as pending_entry
use Rattle.comm_versions.specs.contracts.reader.VersionReader as reader
use Rattle.comm_versions.specs.contracts.version.Version as version
use Rattle.comm_versions.specs.contracts.position.Position as position
use Rattle.comm_versions.specs.contracts.table_buffers.StaleTable as stale
use Rattle.comm_versions.specs.contracts.table_buffers.TableBuffers as table_buffers
use Rattle.comm_versions.specs.contracts.table_buffers.TableBuffers.TheInside as inside
use Rattle.comm_versions.specs.contracts.writer.VersionWriter as writer
use Rattle.comm_versions.proofs.raw_front.RawFront.TheSendSync as RawFront
use Rattle.comm_versions.proofs.published_front.PublishedFront.TheSendSync as PublishedFront
use Rattle.comm_versions.specs.contracts.reader_state.ReaderState as reader_state
use Rattle.comm_versions.proofs.history.Head.TheSendSync as Head
use Rattle.comm_versions.proofs.stamp.Stamp.TheSendSync as Stamp
use Rattle.comm_versions.specs.contracts.comm_table.CommTable as comm_table
use Rattle.left_right.proofs.reader.Reader.TheSendSync as SnapshotReader
use Rattle.left_right.proofs.writer.Writer.TheSendSync as SnapshotWriter
use Rattle.comm_core.proofs.Crossing.{entry_send, entry_sync, dict_send, dict_sync}

pub opened_send : IsSend opened.the_row
opened_send = search (sendable, crosses, dict_send, Text.the_send) depth 40

pub opened_sync : IsSync opened.the_row
opened_sync = search (sendable, crosses, dict_sync, Text.the_sync) depth 40

pub open_comm_send : IsSend open_comm.the_row
open_comm_send = search (sendable, crosses, opened_send, opened_sync) depth 40

pub open_comm_sync : IsSync open_comm.the_row
open_comm_sync = search (sendable, crosses, opened_send, opened_sync) depth 40

pub comm_table_send : IsSend comm_table.the_row
comm_table_send = search (sendable, crosses, open_comm_send, open_comm_sync) depth 40

pub comm_table_sync : IsSync comm_table.the_row
comm_table_sync = search (sendable, crosses, open_comm_send, open_comm_sync) depth 40

pub version_send : IsSend version.the_row
version_send = search (sendable, crosses, comm_table_send, comm_table_sync, RawFront.the_send) depth 40

pub version_sync : IsSync version.the_row
version_sync = search (sendable, crosses, comm_table_send, comm_table_sync, RawFront.the_sync) depth 40

pub pending_entry_send : IsSend pending_entry.the_row
pending_entry_send = search (sendable, crosses, comm_table_send, comm_table_sync, entry_send, entry_sync) depth 40

pub ids_send : IsSend ids.the_row
ids_send = search (sendable, crosses, Text.the_send) depth 40

pub row_send : IsSend row.the_row
row_send = search (sendable, crosses, ids_send, open_comm_send) depth 40

pub position_send : IsSend position.the_row
position_send = search (sendable, crosses) depth 40

row_field_send : IsSend (row.the_field).row
row_field_send = search (sendable, crosses, ids_send, open_comm_send) depth 40

positions_field_send : IsSend (option.the_field position.the_row).row
positions_field_send = search (sendable, crosses, position_send) depth 40

root_send : IsSend (arc.the_row comm_table.the_row global.the_row ghosts)
root_send = search (sendable, crosses, comm_table_send, comm_table_sync) depth 40

pub stale_send : IsSend stale.the_row
stale_send = recorded_send (stale.the_field).row _ _ (stale.the_type).to_one (struct_send (shape stale.the_type) (root_send, (row_field_send, (positions_field_send, tt))))

stales_field_send : IsSend (option.the_field stale.the_row).row
stales_field_send = search (sendable, crosses, stale_send) depth 40

pub table_buffers_send : IsSend table_buffers.the_row
table_buffers_send = view_send _ _ _ _ _ (recorded_send (inside.the_field).row _ _ (inside.the_type).to_one (struct_send (shape inside.the_type) (root_send, (stales_field_send, (stales_field_send, tt)))))

module _ (M : RattleType) (j : history.Ghosts M.Denot) (sj : IsSend M) (yj : IsSync M) where
  reader_state_send : IsSend (reader_state.the_row M j)
  reader_state_send = search (sendable, crosses, Stamp.the_send) depth 60 fits 20000

  pub reader_send : IsSend (reader.the_row M j)
  reader_send = search (sendable, crosses, reader_state_send, version_sync, SnapshotReader.the_field_send) depth 60 fits 20000

  pub writer_send : IsSend (writer.the_row M j)
  writer_send = search (sendable, crosses, PublishedFront.the_send, Head.the_field_send, version_send, version_sync, pending_entry_send, table_buffers_send, SnapshotWriter.the_field_send) depth 60 fits 20000

-- what a thread that is started with a reader or the writer asks for
pub ruleset versions = (reader_send, writer_send, Stamp.the_send, sendable, crosses)
