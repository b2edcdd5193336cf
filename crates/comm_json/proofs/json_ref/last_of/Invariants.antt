use Rattle.std.proofs.Common.{◌≡◌, ◌≤◌, length, take}
use Rattle.json.specs.Value.{members_view}
use Rattle.json.specs.Json.{no_members}
use Rattle.comm_json.specs.Behind.{tidy_members, get_member}
use Rattle.comm_json.proofs.json_ref.last_of.Given as goal

abbrev pub invariant-loop-left : goal.invariant-loop-left
invariant-loop-left l =
    (l.left ≤ length l.list.items)
    × (get_member l.key (tidy_members (members_view l.list.items) no_members) ≡ get_member l.key (tidy_members (members_view (take l.left l.list.items)) no_members))

abbrev pub decreases-loop-left : goal.decreases-loop-left
decreases-loop-left l = l.left
