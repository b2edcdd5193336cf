use Rattle.std.proofs.Common.{◌≡◌, ◌++◌, List, take}
use Rattle.json.specs.Value.{members_view}
use Rattle.json.specs.Json.{no_members}
use Rattle.comm_json.specs.Behind.{tidy_members, members_of}
use Rattle.comm_json.proofs.MemberOrder.{Ref}
use Rattle.comm_json.proofs.in_order.by_map.Given as goal

abbrev pub invariant-loop-member : goal.invariant-loop-member
invariant-loop-member l = members_of l.map.entries ≡ tidy_members (members_view (take l.member-index l.member-items)) no_members

abbrev pub invariant-loop-key : goal.invariant-loop-key
invariant-loop-key l = (done : List Ref) × (l.initial.key-iterator ≡ done ++ l.key-iterator) × (l.all.items ≡ done)
