use Rattle.std.proofs.Common.{◌≡◌, ◌++◌, List}
use Rattle.comm_json.proofs.MemberOrder.{Owned, AreOwned}
use Rattle.comm_json.proofs.in_order.all_of.Given as goal

abbrev pub invariant-loop-key : goal.invariant-loop-key
invariant-loop-key l = (done : List Owned) × (l.map.entries ≡ done ++ l.key-iterator) × AreOwned l.all.items done
