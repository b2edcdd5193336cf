use Rattle.std.proofs.Common.{sym}
use Rattle.comm_c.proofs.kernel_api.rolgunai_unregister.Goals as goal

pub returns-in-Some : goal.returns-in-Some
returns-in-Some c = c.answer.ensures _ _ (sym c.in-Some.ensures.taken) c.unregister_input-input.ensures.input

pub returns-in-None : goal.returns-in-None
returns-in-None c = c.without_manager.ensures _ _ _ (sym c.in-None.ensures.taken) c.in-None.ensures.none
