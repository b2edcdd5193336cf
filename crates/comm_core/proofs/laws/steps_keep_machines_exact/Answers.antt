use Rattle.comm_core.proofs.Exacting.{step_keeps}
use Rattle.comm_core.proofs.laws.steps_keep_machines_exact.Goals as goal

pub returns : goal.returns
returns c = step_keeps
