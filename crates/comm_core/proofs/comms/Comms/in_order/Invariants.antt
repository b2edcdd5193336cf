use Rattle.std.proofs.Common.{◌≡◌, take}
use Rattle.ordered_table.specs.Table.{there}
use Rattle.comm_core.specs.Kept.{pairs_of}
use Rattle.comm_core.specs.Reads.{in_order}
use Rattle.comm_core.proofs.comms.Comms.in_order.Given as goal

abbrev pub invariant-loop-i : goal.invariant-loop-i
invariant-loop-i l = l.all.entries ≡ in_order (pairs_of (there (take l.i l.self-inside.all.places)))
