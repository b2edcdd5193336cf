use Rattle.std.proofs.Common.{Some, ap, ◌∙◌}
use Rattle.comm_core.specs.Ready.{Readied}
use Rattle.comm_core.specs.Tables.{machine_of}
use Rattle.comm_core.proofs.Readying.{finished_step, finished_ended, staged_now, suits_now}
use Rattle.comm_core.proofs.Staging.{targets_mean}
use Rattle.comm_core.proofs.manager.Core.commit_recorded.Goals as goal

pub apply-ended-requires-clause-staged : goal.apply-ended-requires-clause-staged
apply-ended-requires-clause-staged g c κs within = staged_now _ _ _ _ _ _ _ _ _ _ _ _ c.self.view_is c.change.view_is c.requires.ready

pub apply-ended-requires-clause-suits : goal.apply-ended-requires-clause-suits
apply-ended-requires-clause-suits g c κs within = suits_now _ _ _ _ _ _ _ _ _ _ _ _ c.self.view_is c.change.view_is c.requires.ready

pub returns-clause-step : goal.returns-clause-step
returns-clause-step g c =
    finished_step _ _ _ _ _ _ _ _ _ _ _ _ c.self.view_is c.change.view_is c.requires.ready _ _ c.apply-ended.ensures.carried
    ∙ ap (λ (r : Readied). Some (record { reply = c.change.inside.reply; outgoing = r.outgoing; next = machine_of c.apply-ended.new.targets.all c.apply-ended.new.comms.all })) c.change.view_is

pub returns-clause-ended : goal.returns-clause-ended
returns-clause-ended g c = finished_ended _ _ _ _ _ _ _ _ _ _ _ _ c.self.view_is c.change.view_is c.requires.ready _ c.apply-ended.ensures.ended

pub returns-clause-means : goal.returns-clause-means
returns-clause-means g c = targets_mean c.apply-ended.new.targets.all c.apply-ended.new.comms.all c.apply-ended.ensures.carried.0 c.apply-ended.ensures.carried.1
