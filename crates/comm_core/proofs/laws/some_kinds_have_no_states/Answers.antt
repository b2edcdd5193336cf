use Rattle.comm_core.proofs.Stateless.{no_states}
use Rattle.comm_core.proofs.laws.some_kinds_have_no_states.Goals as goal

pub returns : goal.returns
returns c = λ clients limit h p before opener after id target kind since is stateless. no_states clients limit h before opener after id target kind p since is stateless
