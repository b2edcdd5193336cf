-- A manager may be shared by threads, and its clients and its publisher may go to them.
use denote.RattleType.{RattleType}
use denote.Param.Send.{IsSend, IsSync, sendable}
use Rattle.std.proofs.Crossing.{crosses}
use Rattle.comm_core.proofs.target_table.TargetTable.TheSendSync as Boxes
use Rattle.comm_core.specs.contracts.manager.Core as core
use Rattle.comm_core.specs.contracts.comms.Comms as comms
use Rattle.comm_core.specs.contracts.comm.Comm as comm
use Rattle.comm_messages.proofs.infos.Infos.TheSendSync as Infos
use Rattle.ordered_table.proofs.table.Table.TheSendSync as Table
use Rattle.comm_targets.specs.declared.target.Target as target
use Rattle.comm_value.proofs.text.Text.TheSendSync as Text
use Rattle.comm_versions.proofs.stamp.Stamp.TheSendSync as Stamp
use Rattle.comm_versions.specs.declared.history.History as history
use Rattle.comm_manager.proofs.ledger.SeqTotals.TheSendSync as SeqTotals
use Rattle.comm_manager.proofs.ledger.ClientSeq.TheSendSync as ClientSeq
use Rattle.comm_manager.specs.declared.manager_id.ManagerId as manager_id
use Rattle.comm_manager.specs.declared.journal.HistoryStore as store
use Rattle.comm_manager.specs.contracts.change_log.ChangeLog as change_log
use Rattle.comm_manager.specs.contracts.client.Client as client
use Rattle.comm_manager.specs.contracts.journal.CountedHistory as counted
use Rattle.comm_manager.specs.contracts.journal.CountedHistoryHistoryStore.TheImpl as counted_store
use Rattle.comm_manager.specs.contracts.journal.Journal as journal
use Rattle.comm_manager.specs.contracts.journal.KeptHistory as kept
use Rattle.comm_manager.specs.contracts.journal.KeptHistoryHistoryStore.TheImpl as kept_store
use Rattle.comm_manager.specs.contracts.inner.Inner as inner
use Rattle.comm_manager.specs.contracts.publisher.Publisher as publisher
use Rattle.comm_manager.specs.contracts.shared.Manager as manager
use Rattle.comm_core.proofs.Crossing.{entry_send, entry_sync, dict_send}
use Rattle.comm_outbox.proofs.Crossing.{outbox_send, publisher_send as side_send}
use Rattle.comm_versions.proofs.Crossing.{reader_send, writer_send}

pub comm_send : IsSend comm.the_row
comm_send = search (sendable, crosses, dict_send, Text.the_send) depth 40

pub comms_send : IsSend comms.the_row
comms_send = search (sendable, crosses, comm_send, Text.the_send, Table.the_send, Infos.the_send) depth 40 fits 5000

kept_send : IsSend kept.the_row
kept_send = search (sendable, crosses, entry_send, entry_sync) depth 40

counted_send : IsSend counted.the_row
counted_send = search (sendable, crosses) depth 40

pub core_send : (T : RattleType) (t : target.Ghosts T.Denot) → IsSend T → IsSend (core.the_row T t)
core_send T t s = search (sendable, crosses, comms_send, Boxes.the_send) depth 40

module _ (M : RattleType) (n : manager_id.Ghosts M.Denot) (h : history.Ghosts M.Denot) (sj : IsSend M) (yj : IsSync M) where
  pub client_send : IsSend (client.the_row M n h)
  client_send = let r = reader_send M h sj yj in search (sendable, crosses, ClientSeq.the_send) depth 40

  pub publisher_send : IsSend (publisher.the_row M n h)
  publisher_send = search (sendable, crosses, side_send) depth 40

  journal_send : (S : RattleType) (s : store.Ghosts S.Denot) → IsSend S → IsSend (journal.the_row M S n h s)
  journal_send S s ss = search (sendable, crosses, Stamp.the_send) depth 40

  pub log_send : (S : RattleType) (s : store.Ghosts S.Denot) → IsSend S → IsSend (change_log.the_row M S n h s)
  log_send S s ss =
      let w = writer_send M h sj yj in
      let j = journal_send S s ss in
      search (sendable, crosses, entry_send, entry_sync, outbox_send, SeqTotals.the_send) depth 40

  pub inner_send : (T S : RattleType) (t : target.Ghosts T.Denot) (s : store.Ghosts S.Denot) → IsSend T → IsSend S → IsSend (inner.the_row M T S n h t s)
  inner_send T S t s st ss = let l = log_send S s ss in search (sendable, crosses, core_send) depth 40

  any_manager_sync : (T S : RattleType) (t : target.Ghosts T.Denot) (s : store.Ghosts S.Denot) → IsSend T → IsSend S → IsSync (manager.the_row M T S n h t s)
  any_manager_sync T S t s st ss = let i = inner_send T S t s st ss in search (sendable, crosses) depth 40

  pub manager_sync : (T : RattleType) (t : target.Ghosts T.Denot) → IsSend T → IsSync (manager.the_row M T kept.the_row n h t kept_store.ghosts)
  manager_sync T t st = any_manager_sync T kept.the_row t kept_store.ghosts st kept_send

  -- of a manager that counts its history
  pub counted_sync : (T : RattleType) (t : target.Ghosts T.Denot) → IsSend T → IsSync (manager.the_row M T counted.the_row n h t counted_store.ghosts)
  counted_sync T t st = any_manager_sync T counted.the_row t counted_store.ghosts st counted_send

-- what a thread that is started with a manager, a client or the publisher asks for
pub ruleset shared = (manager_sync, counted_sync, client_send, publisher_send, sendable, crosses)
