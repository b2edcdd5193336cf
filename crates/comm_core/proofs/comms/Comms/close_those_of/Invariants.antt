use Rattle.std.proofs.Common.{◌≡◌, drop}
use Rattle.ordered_table.specs.Table.{there}
use Rattle.comm_core.specs.Machine.{ids_of}
use Rattle.comm_core.proofs.comms.Comms.close_those_of.Given as goal

abbrev pub invariant-loop-i : goal.invariant-loop-i
invariant-loop-i g l = l.held ≡ record { kind = l.fn.held.kind; notes = l.fn.held.notes; ids = ids_of l.name (there (drop l.i l.self-inside.all.places)); staged = l.fn.held.staged }
