use Rattle.std.proofs.Common.{None, sym, subst}
use Rattle.comm_core.specs.Evaluated.{evaluated}
use Rattle.comm_core.specs.Ready.{HasStagedAnswer}
use Rattle.comm_core.specs.declared.call.Call.{Call}
use Rattle.comm_core.proofs.manager.Core.prepare.Goals as goal

pub returns-clause-staged : goal.returns-clause-staged
returns-clause-staged g c =
    subst (λ (k : Call). HasStagedAnswer c.args.self.now c.ready.new.self.targets (evaluated k c.in_ok-outcome.field-0 None)) (sym c.of-seen.ensures) c.in_ok-outcome.ensures.staged
