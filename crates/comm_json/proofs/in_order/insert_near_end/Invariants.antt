use Rattle.std.proofs.Common.{◌≡◌, ◌-◌, ◌≤◌, length, drop}
use Rattle.std.specs.Map.{keys_of}
use Rattle.comm_json.proofs.MemberOrder.{AllAbove}
use Rattle.comm_json.proofs.in_order.insert_near_end.Given as goal

abbrev pub invariant-loop-place : goal.invariant-loop-place
invariant-loop-place l = (l.all.items ≡ l.initial.all.items) × (l.place ≤ length l.all.items) × AllAbove l.key (keys_of (drop l.place l.all.items))

abbrev pub decreases-loop-place : goal.decreases-loop-place
decreases-loop-place l = l.place - l.least
