use Rattle.std.proofs.Common.{Some, ap, ◌∙◌, arith}
use Rattle.serde_json.specs.View.{view}
use Rattle.json.specs.Value.{value_view}
use Rattle.comm_json.specs.Behind.{tidy}
use Rattle.serde_json.specs.Written.{outline}
use Rattle.json.specs.declared.value.Value.{Value}
use Rattle.comm_json.proofs.LookUp.{item_at_owned, item_past_owned, item_at, item_past, count_of, count_of_owned}
use Rattle.comm_json.proofs.json_ref.ItemsRef.get.Goals as goal

pub returns-then-index-len-clause-item : goal.returns-then-index-len-clause-item
returns-then-index-len-clause-item c =
    rw c.in-Owned.is (ap (λ v. Some (outline (view v))) c.index.ensures ∙ item_at_owned c.in-Owned.items.now.items c.args.index c.index.result.now (omega arith))

pub returns-else-index-len-clause-item : goal.returns-else-index-len-clause-item
returns-else-index-len-clause-item c = rw c.in-Owned.is (item_past_owned c.in-Owned.items.now.items c.args.index (omega arith))

pub returns-then-index-len-2-clause-item : goal.returns-then-index-len-2-clause-item
returns-then-index-len-2-clause-item c =
    rw c.in-Borrowed.is (ap (λ (v : Value _). Some (tidy (value_view v))) c.index-then-index-len-2.ensures ∙ item_at c.in-Borrowed.items.now.items c.args.index c.index-then-index-len-2.result.now (omega arith))

pub returns-else-index-len-2-clause-item : goal.returns-else-index-len-2-clause-item
returns-else-index-len-2-clause-item c = rw c.in-Borrowed.is (item_past c.in-Borrowed.items.now.items c.args.index (omega arith))

pub returns-then-index-len-clause-within : goal.returns-then-index-len-clause-within
returns-then-index-len-clause-within c = rw c.in-Owned.is (omega (arith, count_of_owned c.in-Owned.items.now.items))

pub returns-then-index-len-2-clause-within : goal.returns-then-index-len-2-clause-within
returns-then-index-len-2-clause-within c = rw c.in-Borrowed.is (omega (arith, count_of c.in-Borrowed.items.now.items))
