use Rattle.std.proofs.Common.{◌≡◌, ◌++◌, take}
use Rattle.comm_versions.proofs.chunks.copy_all.Given as goal

abbrev pub invariant-loop-comm : goal.invariant-loop-comm
invariant-loop-comm l = l.all.items ≡ l.initial.all.items ++ take l.comm-index l.comms
