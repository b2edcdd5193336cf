use denote.Param.Send.{IsSend}
use Rattle.comm_c.proofs.ClientCrossing.{client_handle_send}
use Rattle.comm_c.specs.contracts.client_handle.ClientHandle.{the_row}

pub send : IsSend the_row
send = client_handle_send
