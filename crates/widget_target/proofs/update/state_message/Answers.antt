use Rattle.std.proofs.Common.{ap, ◌∙◌}
use Rattle.comm_value.specs.Places.{members_have_bytes}
use Rattle.widget_target.proofs.Plain.{plain_members_free}
use Rattle.widget_target.proofs.update.state_message.Goals as goal

pub told-requires : goal.told-requires
told-requires c = ap members_have_bytes c.in_ok-plain.ensures.plain ∙ plain_members_free c.args.state.now
