use Rattle.std.proofs.Common.{◌≡◌, ◌+◌, ◌<◌, ◌^◌, ◌++◌, [], drop, length}
use Rattle.comm_core.specs.History.{IsLegal}
use Rattle.comm_versions.specs.Known.{known, origin_of}
use Rattle.comm_versions.specs.Pending.{entries_in, FollowInOrder}
use Rattle.comm_versions.proofs.adding.add_all.Given as goal

abbrev pub decreases-loop-pending_entry : goal.decreases-loop-pending_entry
decreases-loop-pending_entry g l = length l.pending.items

abbrev pub invariant-loop-pending_entry : goal.invariant-loop-pending_entry
invariant-loop-pending_entry g l =
    (length l.front + length l.pending.items < 2 ^ 62) × (l.front ++ entries_in l.pending.items ≡ l.fn.front ++ entries_in l.fn.pending.items) × IsLegal g.M.History.limits.clients g.M.History.limits.comms (l.front ++ entries_in l.pending.items)
    × (l.snapshots.desk.shown.value.front ≡ known (origin_of g.M.History.book g.M.History.limits) l.front) × (drop l.snapshots.behind l.snapshots.log.items ≡ []) × FollowInOrder g.M.History.limits.comms l.front l.pending.items
