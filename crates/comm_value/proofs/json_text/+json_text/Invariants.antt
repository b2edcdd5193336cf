use Rattle.std.proofs.Common.{◌≡◌, ◌+◌, ◌++◌, ◌∷◌, drop, false}
use Rattle.comm_json.specs.Text.{items_text, members_text}
use Rattle.comm_value.specs.ToJson.{json_items, json_members}
use Rattle.comm_value.specs.View.{items_of, members_of, flat}
use Rattle.comm_value.proofs.Openings.{opening}
use Rattle.comm_value.proofs.json_text.+json_text.Given as goal

abbrev pub invariant-write_items-loop-item : goal.invariant-write_items-loop-item
invariant-write_items-loop-item l =
    l.out.items ++ (opening l.later 91 ++ items_text l.later (json_items (items_of (drop l.item-index l.item-items)))) ≡ l.initial.out.items ++ 91 ∷ items_text false (json_items l.items)

abbrev pub invariant-write_members-loop-chunk : goal.invariant-write_members-loop-chunk
invariant-write_members-loop-chunk l =
    l.out.items ++ (opening l.later 123 ++ members_text l.later (json_members (members_of (flat (drop l.chunk-index l.chunk-items))))) ≡ l.fn.out.items ++ 123 ∷ members_text false (json_members l.dict)

abbrev pub invariant-write_members-loop-member : goal.invariant-write_members-loop-member
invariant-write_members-loop-member l =
    l.out.items ++ (opening l.later 123 ++ members_text l.later (json_members (members_of (drop l.member-index l.member-items ++ flat (drop (l.chunk-index + 1) l.chunk-items))))) ≡ l.fn.out.items ++ 123 ∷ members_text false (json_members l.dict)
