use Rattle.std.proofs.Common.{◌≡◌}
use Rattle.comm_c.proofs.client_kernel_api.rolgunai_client_push.Goals as goal

pub returns-in-Ok : goal.returns-in-Ok
returns-in-Ok c =
    let numbers : c.numbers.result ≡ c.in-Ok.entered.client.value.numbers = cc in
    c.answer.ensures _ _ c.in-Ok.ensures.taken (rw numbers at c.push-input.ensures.input)

pub returns-in-Err : goal.returns-in-Err
returns-in-Err c = c.not_entered.ensures _ _ _ c.in-Err.ensures.same c.in-Err.ensures.closed
