use Rattle.comm_messages.proofs.AnyNumber.{never_not_whole, never_not_whole_by_parts}
use Rattle.comm_messages.proofs.laws.any_number_is_read.Goals as goal

pub returns : goal.returns
returns c = record { line = never_not_whole; parts = never_not_whole_by_parts }
