use denote.Param.Send.{IsSend}
use Rattle.comm_targets.specs.contracts.open_ids.OpenIds.{the_row}

-- it owns nothing
pub send : IsSend the_row
send = record { owned = λ d vs. ((λ uss. (tt, tt)), tt); leaving = λ k f vs. tt }
