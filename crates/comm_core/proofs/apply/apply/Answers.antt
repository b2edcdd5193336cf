use Rattle.std.proofs.Common.{ap, ◌∙◌, ◌++◌, ◌∷◌, [], option_map, refl}
use Rattle.comm_targets.specs.Meaning.{Meaning}
use Rattle.comm_core.proofs.Committing.{register_made, replace_here}
use Rattle.comm_core.proofs.apply.apply.Goals as goal

pub returns-in-Some-clause-carried : goal.returns-in-Some-clause-carried
returns-in-Some-clause-carried g c =
    register_made c.args.targets.now.all c.args.comms.now.all c.requires.agrees c.args.table_update c.args.outcome _ _ _ c.in-Register.is c.requires.staged _ _ c.requires.suits
    (ap (option_map g.T.Target.means) c.in-Some.is) c.push.new.self.all c.args.comms.now.all
    (c.push.ensures ∙ ap (λ (m : Meaning). c.args.targets.now.all ++ (c.in-Register.name, m) ∷ []) c.new.ensures) refl

pub replace-requires-clause-here : goal.replace-requires-clause-here
replace-requires-clause-here g c κs within = replace_here c.args.targets.now.all c.args.comms.now.all c.args.table_update c.args.outcome _ _ _ c.in-Replace.is _ c.requires.suits
