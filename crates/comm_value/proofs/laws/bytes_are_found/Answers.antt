use Rattle.comm_value.proofs.FoundBytes.{found}
use Rattle.comm_value.proofs.laws.bytes_are_found.Goals as goal

pub returns : goal.returns
returns c = found
