use Rattle.std.proofs.Common.{◌≡◌, ◌++◌, take}
use Rattle.comm_value.proofs.chunks.push_copies.Given as goal

abbrev pub invariant-loop-member : goal.invariant-loop-member
invariant-loop-member l = l.all.items ≡ l.initial.all.items ++ take l.member-index l.members
