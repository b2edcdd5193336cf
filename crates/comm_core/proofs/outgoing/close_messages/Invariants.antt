use Rattle.std.proofs.Common.{◌≡◌, map, take}
use Rattle.comm_messages.specs.declared.outgoing.Outgoing.TheVariants as out
use Rattle.comm_core.proofs.outgoing.close_messages.Given as goal

abbrev pub invariant-loop-id : goal.invariant-loop-id
invariant-loop-id l = l.all.items ≡ map out.Close (take l.id-index l.ids)
