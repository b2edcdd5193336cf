use Rattle.std.proofs.Common.{◌≡◌, take}
use Rattle.ordered_table.specs.Table.{there}
use Rattle.comm_core.specs.Machine.{ids_of}
use Rattle.comm_core.proofs.comms.Comms.ids_of.Given as goal

abbrev pub invariant-loop-i : goal.invariant-loop-i
invariant-loop-i l = l.ids ≡ ids_of l.name (there (take l.i l.self-inside.all.places))
