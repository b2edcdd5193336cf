use Rattle.std.proofs.Common.{◌≡◌, true, subst}
use Rattle.comm_core.specs.Ready.{CoreValue}
use Rattle.comm_core.specs.Tables.{TargetsMean}
use Rattle.comm_core.proofs.Staging.{targets_mean}
use Rattle.comm_core.proofs.manager.Core.settled.Goals as goal

pub returns-clause-means : goal.returns-clause-means
returns-clause-means g c =
    subst (λ (s : CoreValue). s.settled ≡ true → TargetsMean s.targets s.comms) c.self.view_is
    (λ e. targets_mean c.self.inside.targets.all c.self.inside.comms.all c.self.invariant.agrees (c.self.invariant.nothing_staged e))
