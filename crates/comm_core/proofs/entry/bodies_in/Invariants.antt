use Rattle.std.proofs.Common.{◌≡◌, take}
use Rattle.comm_core.specs.Told.{bodies_in}
use Rattle.comm_core.proofs.entry.bodies_in.Given as goal

abbrev pub invariant-loop-message : goal.invariant-loop-message
invariant-loop-message l = l.all ≡ bodies_in (take l.message-index l.outgoing)
