use Rattle.comm_core.proofs.Listing.{listed_in_order}
use Rattle.comm_core.proofs.laws.comms_are_listed_in_the_order_of_ids.Goals as goal

pub returns : goal.returns
returns c = listed_in_order
