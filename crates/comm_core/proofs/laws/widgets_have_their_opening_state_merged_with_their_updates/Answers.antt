use Rattle.comm_core.proofs.Updating.{updates_merged}
use Rattle.comm_core.proofs.laws.widgets_have_their_opening_state_merged_with_their_updates.Goals as goal

pub returns : goal.returns
returns c = λ clients limit h p before opener after id target kind since is w. updates_merged clients limit h before opener after id target kind p since is w
