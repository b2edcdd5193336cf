use Rattle.std.proofs.Common.{[]}
use Rattle.comm_targets.proofs.open_ids.OpenIds.none.Given as goal

abbrev pub ghost-picked : goal.ghost-picked
ghost-picked a = []
