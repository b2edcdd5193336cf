use Rattle.comm_c.proofs.client_kernel_api.rolgunai_client_close.Goals as goal

pub returns-in-Ok : goal.returns-in-Ok
returns-in-Ok c = c.answer.ensures _ _ c.in-Ok.ensures.taken c.close_input-input.ensures.input

pub returns-in-Err : goal.returns-in-Err
returns-in-Err c = c.not_entered.ensures _ _ _ c.in-Err.ensures.same c.in-Err.ensures.closed
