use Rattle.comm_targets.specs.Meaning.{without}
use Rattle.comm_targets.proofs.open_ids.OpenIds.without.Given as goal

abbrev pub ghost-picked : goal.ghost-picked
ghost-picked a = without a.from.now.id.now a.from.now.before.now.ids
