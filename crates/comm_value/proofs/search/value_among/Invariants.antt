use Rattle.std.proofs.Common.{◌≡◌, drop}
use Rattle.comm_value.specs.View.{members_of}
use Rattle.comm_value.specs.Node.{get}
use Rattle.comm_value.proofs.search.value_among.Given as goal

abbrev pub invariant-loop-member : goal.invariant-loop-member
invariant-loop-member l = get l.key (members_of (drop l.member-index l.members)) ≡ get l.key (members_of l.members)
