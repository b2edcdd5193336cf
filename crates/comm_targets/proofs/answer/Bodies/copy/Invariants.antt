use Rattle.std.proofs.Common.{◌≡◌, take}
use Rattle.comm_targets.proofs.answer.Bodies.copy.Given as goal

abbrev pub invariant-loop-body : goal.invariant-loop-body
invariant-loop-body l = l.all.items ≡ take l.body-index l.body-items
