use Rattle.std.proofs.Common.{◌≡◌, take}
use Rattle.json.specs.Value.{members_view}
use Rattle.json.specs.Json.{no_members}
use Rattle.comm_json.specs.Behind.{tidy_members, members_of, AreInOrder}
use Rattle.comm_json.proofs.in_order.in_order.Given as goal

abbrev pub invariant-loop-member : goal.invariant-loop-member
invariant-loop-member l = (members_of l.all.items ≡ tidy_members (members_view (take l.member-index l.member-items)) no_members) × AreInOrder l.all.items
