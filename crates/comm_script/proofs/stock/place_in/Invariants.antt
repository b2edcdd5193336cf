use Rattle.std.proofs.Common.{take}
use Rattle.comm_script.specs.Stock.{IsWithout}
use Rattle.comm_script.proofs.stock.place_in.Given as goal

abbrev pub invariant-loop-i : goal.invariant-loop-i
invariant-loop-i g l = IsWithout g.T.Target.means l.kind (take l.i l.targets)
