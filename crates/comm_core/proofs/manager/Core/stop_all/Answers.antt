use Rattle.std.proofs.Common.{ap, ◌∙◌}
use Rattle.comm_core.specs.Ready.{CoreValue}
use Rattle.comm_core.proofs.Staging.{targets_mean}
use Rattle.comm_core.proofs.manager.Core.stop_all.Goals as goal

pub end_all-requires-after_bounds : goal.end_all-requires-after_bounds
end_all-requires-after_bounds g c κs within = targets_mean _ _ c.self.invariant.agrees (c.self.invariant.nothing_staged (ap (λ (s : CoreValue). s.settled) c.self.view_is ∙ c.requires))
