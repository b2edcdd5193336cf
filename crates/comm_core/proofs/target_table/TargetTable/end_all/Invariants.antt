use Rattle.std.proofs.Common.{length}
use Rattle.comm_core.proofs.Stopping.{AllAgree}
use Rattle.comm_core.proofs.target_table.TargetTable.end_all.Given as goal

abbrev pub invariant-loop-name : goal.invariant-loop-name
invariant-loop-name g l = AllAgree l.self.all l.comms.all

abbrev pub decreases-loop-name : goal.decreases-loop-name
decreases-loop-name g l = length l.self.all
