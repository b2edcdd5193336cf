use Rattle.std.proofs.Common.{◌<◌, length, Some, ap, ◌∙◌, sym, arith}
use Rattle.std.specs.Prelude.{option_map}
use Rattle.comm_value.specs.Tree.{list}
use Rattle.comm_value.specs.Node.{get_item}
use Rattle.comm_value.specs.Order.{is_ordered, items_ordered}
use Rattle.comm_value.specs.Put.{replace}
use Rattle.comm_value.specs.View.{tree}
use Rattle.comm_value.proofs.PlacingLemmas.{item_there, item_past, ordered_set}
use Rattle.comm_value.proofs.TakingLemmas.{replace_again}
use Rattle.comm_value.proofs.taking.take_item.Goals as goal

pub returns-then-n-len-clause-inner : goal.returns-then-n-len-clause-inner
returns-then-n-len-clause-inner c =
    sym (item_past c.in_ok-all.all.items c.args.n (omega (arith, c.if-n-len.true, c.len.ensures))) ∙ ap (get_item c.args.n) c.in_ok-all.ensures.shown

pub new-requires : goal.new-requires
new-requires c =
    ordered_set c.in_ok-all.all.items c.args.n _ (ap items_ordered c.in_ok-all.ensures.shown ∙ c.into_values.ensures.ordered) (ap (λ v. is_ordered (tree v)) c.replace-inner.ensures.after)

pub returns-clause-inner : goal.returns-clause-inner
returns-clause-inner c =
    let within : c.args.n < length c.in_ok-all.all.items = omega (arith, c.if-n-len.false, c.len.ensures) in
    ap (λ v. Some (tree v)) c.replace-inner.ensures.value ∙ sym (item_there c.in_ok-all.all.items c.args.n _ within c.index_mut.ensures.value) ∙ ap (get_item c.args.n) c.in_ok-all.ensures.shown

pub returns-clause-outer : goal.returns-clause-outer
returns-clause-outer c = λ t.
    ap (option_map list) (ap (replace c.args.n t) c.in_ok-new.ensures ∙ replace_again c.in_ok-all.all.items c.args.n _ t ∙ ap (replace c.args.n t) c.in_ok-all.ensures.shown)
