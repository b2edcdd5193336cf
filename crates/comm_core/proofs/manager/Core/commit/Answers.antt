use Rattle.std.proofs.Common.{Option, option_map, sym, subst}
use Rattle.comm_core.specs.Step.{Outcome}
use Rattle.comm_core.specs.Tables.{HaveStaged, machine_of, unstaged}
use Rattle.comm_core.specs.Plans.{Carried, Suits, planned, staged_by}
use Rattle.comm_core.proofs.Readying.{finished_step, finished_ended, staged_now, suits_now}
use Rattle.comm_core.proofs.Staging.{targets_mean}
use Rattle.comm_core.proofs.manager.Core.commit.Goals as goal

pub apply-ended-requires-clause-staged : goal.apply-ended-requires-clause-staged
apply-ended-requires-clause-staged g c κs within =
    subst (λ (o : Option Outcome). HaveStaged c.self.inside.targets.all (staged_by c.prepared.inside.table_update o)) (sym c.take.ensures) (staged_now _ _ _ _ _ _ _ _ _ _ _ _ c.self.view_is c.prepared.view_is c.requires.ready)

pub apply-ended-requires-clause-suits : goal.apply-ended-requires-clause-suits
apply-ended-requires-clause-suits g c κs within =
    subst (λ (o : Option Outcome). Suits (unstaged c.self.inside.targets.all) c.self.inside.comms.all (option_map g.T.Target.means c.prepared.inside.registered) c.prepared.inside.table_update o) (sym c.take.ensures) (suits_now _ _ _ _ _ _ _ _ _ _ _ _ c.self.view_is c.prepared.view_is c.requires.ready)

pub returns-clause-step : goal.returns-clause-step
returns-clause-step g c =
    finished_step _ _ _ _ _ _ _ _ _ _ _ _ c.self.view_is c.prepared.view_is c.requires.ready _ _
    (subst (λ (o : Option Outcome). Carried c.apply-ended.new.targets.all c.apply-ended.new.comms.all (planned (machine_of c.self.inside.targets.all c.self.inside.comms.all) c.prepared.inside.table_update o)) c.take.ensures c.apply-ended.ensures.carried)

pub returns-clause-ended : goal.returns-clause-ended
returns-clause-ended g c = finished_ended _ _ _ _ _ _ _ _ _ _ _ _ c.self.view_is c.prepared.view_is c.requires.ready _ c.apply-ended.ensures.ended

pub returns-clause-means : goal.returns-clause-means
returns-clause-means g c = targets_mean c.apply-ended.new.targets.all c.apply-ended.new.comms.all c.apply-ended.ensures.carried.0 c.apply-ended.ensures.carried.1
