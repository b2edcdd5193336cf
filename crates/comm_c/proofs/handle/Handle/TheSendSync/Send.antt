use denote.Param.Send.{IsSend}
use Rattle.comm_c.proofs.Crossing.{handle_send}
use Rattle.comm_c.specs.contracts.handle.Handle.{the_row}

pub send : IsSend the_row
send = handle_send
