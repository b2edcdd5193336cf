use Rattle.std.proofs.Common.{sym}
use Rattle.comm_targets.specs.Meaning.{after_abandon}
use Rattle.comm_core.proofs.Staging.{unstaged-at}
use Rattle.comm_core.proofs.Carried.{unregistered_carried}
use Rattle.comm_core.proofs.apply.unregister.Goals as goal

pub close_those_of-requires-clause-ids : goal.close_those_of-requires-clause-ids
close_those_of-requires-clause-ids g c κs within =
    c.requires.agrees.ids _ (after_abandon c.in-Some.held) (unstaged-at c.args.targets.now.all _ c.in-Some.held (sym c.in-Some.ensures.taken))

pub returns-clause-tables : goal.returns-clause-tables
returns-clause-tables g c = unregistered_carried _ _ c.requires.agrees c.requires.none _ _ _ c.take.ensures.all c.remove_those_of.ensures
