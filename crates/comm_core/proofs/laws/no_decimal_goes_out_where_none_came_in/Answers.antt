use Rattle.comm_core.proofs.SendingIntegers.{sends_integers, holds_integers}
use Rattle.comm_core.proofs.laws.no_decimal_goes_out_where_none_came_in.Goals as goal

pub returns : goal.returns
returns c = record {
  sent = λ clients limit h p all. sends_integers limit clients h p all;
  states = λ clients limit h p all. holds_integers limit clients h p all;
}
