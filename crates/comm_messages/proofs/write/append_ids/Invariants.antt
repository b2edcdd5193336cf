use Rattle.std.proofs.Common.{◌≡◌, ◌++◌, drop, false}
use Rattle.comm_json.specs.Text.{items_text}
use Rattle.comm_messages.specs.Text.{texts}
use Rattle.comm_messages.proofs.write.append_ids.Given as goal

abbrev pub invariant-loop-id : goal.invariant-loop-id
invariant-loop-id l = l.out.items ++ items_text l.later (texts (drop l.id-index l.ids)) ≡ l.initial.out.items ++ items_text false (texts l.ids)
