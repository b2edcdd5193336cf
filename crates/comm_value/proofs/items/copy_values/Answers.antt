use Rattle.std.proofs.Common.{map, ap, ◌∙◌}
use Rattle.std.proofs.lemmas.List.{take_all}
use Rattle.comm_value.specs.View.{tree}
use Rattle.comm_value.proofs.PlacingLemmas.{same_items}
use Rattle.comm_value.proofs.items.copy_values.Goals as goal

pub returns : goal.returns
returns c = same_items c.loop-value.copies.items c.args.all.now (c.loop-value.invariant ∙ ap (map tree) (take_all c.loop-value.value-index c.args.all.now c.loop-value-test.false))
