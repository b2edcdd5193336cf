use Rattle.comm_core.proofs.Exacting.{no_choice}
use Rattle.comm_core.proofs.laws.exact_machines_leave_no_choice.Goals as goal

pub returns : goal.returns
returns c = no_choice
