use Rattle.std.proofs.Common.{ap, ◌∙◌}
use Rattle.comm_value.specs.View.{grouped}
use Rattle.comm_value.proofs.Flat.{flat_push, filled_push, not_empty}
use Rattle.comm_value.proofs.chunks.+push_chunks.Goals as goal

pub returns-then-len-max_length-clause-flat : goal.returns-then-len-max_length-clause-flat
returns-then-len-max_length-clause-flat t c = flat_push c.args.before.items _ c.in_ok-new.field-0 c.args.members.items c.in_ok-push.ensures.items (ap grouped c.in_ok-new.ensures.ok ∙ c.of.ensures)

pub returns-then-len-max_length-clause-filled : goal.returns-then-len-max_length-clause-filled
returns-then-len-max_length-clause-filled t c =
    filled_push c.args.before.items _ c.in_ok-new.field-0 c.args.members.items c.in_ok-push.ensures.items (ap grouped c.in_ok-new.ensures.ok ∙ c.of.ensures) (not_empty c.args.members c.if-is_empty.ensures) c.requires.filled
