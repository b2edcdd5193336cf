-- No comms are in the order of their ids.
use Rattle.std.proofs.Common.{[]}
use Rattle.core.specs.List.Sorted.{IsStrictlySortedBy}
use Rattle.comm_messages.specs.Listed.{IdsAreInOrder}

pub none_in_order : IdsAreInOrder []
unfolding IsStrictlySortedBy
none_in_order = tt
