use Rattle.comm_core.proofs.LeftOpen.{listed_left_open}
use Rattle.comm_core.proofs.laws.comms_that_are_listed_were_left_open.Goals as goal

pub returns : goal.returns
returns c = listed_left_open
