use Rattle.std.proofs.Common.{◌≡◌, take, Some}
use Rattle.json.specs.Json.{Json, Members}
use Rattle.json.specs.Value.{members_view}
use Rattle.comm_json.specs.Behind.{put, tidy_members, get_member}
use Rattle.comm_value.proofs.from_json.comes_again.Given as goal

abbrev pub invariant-loop-member : goal.invariant-loop-member
invariant-loop-member l = (j : Json) (found : Members) → get_member l.key (tidy_members (members_view (take l.member-index l.later)) (put l.key j found)) ≡ Some j
