use Rattle.comm_value.proofs.WholeNumbers.{value_so, members_so}
use Rattle.comm_value.proofs.laws.integers_alone_have_no_decimal.Goals as goal

pub returns : goal.returns
returns c = record { value = value_so; members = members_so }
