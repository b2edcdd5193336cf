use Rattle.std.proofs.Common.{Some, ap, sym, ◌∙◌, option_map}
use Rattle.comm_targets.specs.Meaning.{after_abandon}
use Rattle.comm_core.specs.Tables.{emptied}
use Rattle.comm_core.proofs.Staging.{unstaged-at}
use Rattle.comm_core.proofs.Carried.{replaced_carried}
use Rattle.comm_core.proofs.apply.replace.Goals as goal

pub close_those_of-requires-clause-ids : goal.close_those_of-requires-clause-ids
close_those_of-requires-clause-ids g c κs within = c.requires.agrees.ids _ (after_abandon c.replace-replaced.result) (unstaged-at c.args.targets.now.all _ c.replace-replaced.result c.replace-replaced.ensures.was)

pub close_those_of-requires-clause-unstaged : goal.close_those_of-requires-clause-unstaged
close_those_of-requires-clause-unstaged g c κs within = c.requires.none _ c.replace-replaced.result c.replace-replaced.ensures.was

pub returns-clause-tables : goal.returns-clause-tables
returns-clause-tables g c =
    replaced_carried _ _ c.requires.agrees c.requires.none _ _ _ c.replace-replaced.result c.args.held c.replace-replaced.ensures.was c.requires.idle c.replace-replaced.ensures.all c.remove_those_of.ensures

pub returns-clause-ended : goal.returns-clause-ended
returns-clause-ended g c = ap Some c.close_those_of.ensures.closed ∙ ap (option_map emptied) (sym c.replace-replaced.ensures.was)
