use Rattle.comm_core.proofs.Refusing.{refused_leaves_all}
use Rattle.comm_core.proofs.laws.refused_calls_change_nothing.Goals as goal

pub returns : goal.returns
returns c = refused_leaves_all
