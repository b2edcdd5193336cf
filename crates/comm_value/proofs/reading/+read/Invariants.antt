use Rattle.std.proofs.Common.{◌≡◌, ◌+◌, ◌*◌, length, None, true}
use Rattle.json.specs.Json.{after_end_array}
use Rattle.comm_value.specs.Order.{items_ordered, members_ordered}
use Rattle.comm_value.specs.View.{flat, AllFilled, items_of as items_view, members_of as members_view}
use Rattle.comm_value.proofs.ReadingLemmas.{HasItems, HasMembers}
use Rattle.comm_value.proofs.reading.+read.Given as goal

abbrev pub decreases-read_val : goal.decreases-read_val
decreases-read_val l = 5 * l.depth

abbrev pub decreases-read_member : goal.decreases-read_member
decreases-read_member l = 5 * l.depth + 1

abbrev pub decreases-read_members : goal.decreases-read_members
decreases-read_members l = 5 * l.depth + 4

abbrev pub decreases-read_items : goal.decreases-read_items
decreases-read_items l = 5 * l.depth + 1

abbrev pub decreases-read_rest : goal.decreases-read_rest
decreases-read_rest l = 5 * l.depth + 3

abbrev pub invariant-read_items-loop-found : goal.invariant-read_items-loop-found
invariant-read_items-loop-found l =
    HasItems l.numbers l.depth l.initial.reader l.found.items l.reader × (items_ordered (items_view l.found.items) ≡ true) × (after_end_array l.reader ≡ None)

abbrev pub decreases-read_items-loop-found : goal.decreases-read_items-loop-found
decreases-read_items-loop-found l = length l.reader

abbrev pub invariant-read_rest-loop-found : goal.invariant-read_rest-loop-found
invariant-read_rest-loop-found l =
    HasMembers l.numbers l.depth l.initial.reader (members_view l.initial.found.items) (members_view l.found.items) l.reader × (members_ordered (members_view l.found.items) ≡ true)

abbrev pub decreases-read_rest-loop-found : goal.decreases-read_rest-loop-found
decreases-read_rest-loop-found l = length l.reader

abbrev pub decreases-read_many : goal.decreases-read_many
decreases-read_many l = 5 * l.depth + 2

abbrev pub invariant-read_many-loop-found : goal.invariant-read_many-loop-found
invariant-read_many-loop-found l =
    HasMembers l.numbers l.depth l.initial.reader (members_view (flat l.initial.found.items)) (members_view (flat l.found.items)) l.reader × (members_ordered (members_view (flat l.found.items)) ≡ true) × AllFilled l.found.items

abbrev pub decreases-read_many-loop-found : goal.decreases-read_many-loop-found
decreases-read_many-loop-found l = length l.reader
