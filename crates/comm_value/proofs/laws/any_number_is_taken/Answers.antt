use Rattle.comm_value.proofs.AnyNumber.{value_taken, members_taken}
use Rattle.comm_value.proofs.laws.any_number_is_taken.Goals as goal

pub returns : goal.returns
returns c = record { value = value_taken; members = members_taken }
