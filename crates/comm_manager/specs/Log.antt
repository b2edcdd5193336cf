-- What one change does to the log under the lock; for private clauses.
use Rattle.std.specs.Prelude.{ℕ, ◌≡◌, ◌+◌, ◌<◌, ◌≤◌, true, List, length, slice_index}
use mathlib.Core.List.{IsPrefix}
use Rattle.atomic_table.specs.Seated.{TableId}
use Rattle.comm_targets.specs.Meaning.{Meaning}
use Rattle.comm_core.specs.History.{mine}
use Rattle.comm_core.specs.Machine.{Name}
use Rattle.comm_core.specs.Ready.{CoreValue}
use Rattle.comm_core.specs.declared.call.Call.{Call}
use Rattle.comm_core.specs.declared.call.Call.TheVariants.{Register}
use Rattle.comm_core.specs.declared.entry.Entry.{Entry}
use Rattle.comm_core.specs.declared.limits.Limits.{Limits}
use Rattle.comm_core.specs.declared.reply.Reply.{Reply}
use Rattle.comm_versions.specs.Asked.{IsNext}
use Rattle.comm_manager.specs.SeqView.{SeqView, seq_view}
use Rattle.comm_manager.specs.UnderLock.{LockInvariant, OutboxInvariant}
use Rattle.comm_manager.specs.declared.change_log.ChangeLog.{ChangeLog}

-- the call that registers a target of this meaning
abbrev pub register_call : Name → Meaning → Call
register_call name target = Register name target.kind target.notes

-- what is true of the log and the tables whenever the lock is got
abbrev pub LogInvariant : {M S : Type 0} → TableId → Limits → ChangeLog M S → CoreValue → Type 0
LogInvariant queue limits log core =
    LockInvariant limits log.journal.all core log.writer log.totals
    × OutboxInvariant queue limits log.journal.all log.outbox × (log.limits ≡ limits)

-- there is room for one more entry in the history, and for two in the queue, of which one is kept for an end
abbrev pub HasRoom : {M S : Type 0} → Limits → ChangeLog M S → Type 0
HasRoom limits log =
    (log.journal.room ≡ true) × (2 ≤ log.outbox.room) × (length log.journal.all < limits.history)

-- the client's count is its total
abbrev pub IsTotal : {M S : Type 0} → ChangeLog M S → SeqView → Type 0
IsTotal log seq = (seq.client < 4) × (slice_index log.totals seq.client ≡ seq.number)

-- the history grew by the entry of this call, which has the client's next number
abbrev pub IsAppended : {M S : Type 0} → (old new : ChangeLog M S) → SeqView → Call → Reply → Type 0
IsAppended old new seq asked reply =
    IsNext old.journal.all new.journal.all seq.client (seq.number + 1) asked reply

-- the number and the stamp are those of the whole history
abbrev pub IsStampOf : {M S : Type 0} → ChangeLog M S → ℕ → List Entry → Type 0
IsStampOf log number stamp = (stamp ≡ log.journal.all) × (number ≡ length log.journal.all)

-- the client had seen no more than the history, and has now seen all of it
abbrev pub HasSeenAll : {M S : Type 0} → (old new : ChangeLog M S) → (before after : List Entry) → Type 0
HasSeenAll old new before after = (after ≡ new.journal.all) × IsPrefix before old.journal.all

-- the change was counted, and all that had been counted stand in the history
abbrev pub IsCounted : {M S : Type 0} → ChangeLog M S → (old new : SeqView) → Type 0
IsCounted log old new =
    (new ≡ seq_view old.client (old.number + 1)) × (length (mine log.journal.all old.client) ≡ old.number)

-- neither the history nor the client changed
abbrev pub IsUnchanged : {M S : Type 0} → (old new : ChangeLog M S) → (seq seq' : SeqView) → (seen seen' : List Entry)
    → Type 0
IsUnchanged old new seq seq' seen seen' =
    (seq' ≡ seq) × (seen' ≡ seen) × (new.journal.all ≡ old.journal.all)
