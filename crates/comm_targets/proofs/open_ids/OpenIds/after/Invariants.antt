use Rattle.comm_targets.specs.Meaning.{ids_after}
use Rattle.comm_targets.proofs.open_ids.OpenIds.after.Given as goal

abbrev pub ghost-picked : goal.ghost-picked
ghost-picked a = ids_after a.from.now.before.now.ids a.from.now.staged.now.event
