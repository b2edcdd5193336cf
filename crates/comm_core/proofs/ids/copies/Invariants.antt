use Rattle.std.proofs.Common.{◌≡◌, take}
use Rattle.comm_core.proofs.ids.copies.Given as goal

abbrev pub invariant-loop-id : goal.invariant-loop-id
invariant-loop-id l = l.all.items ≡ take l.id-index l.ids
