use Rattle.comm_core.proofs.Listing.{put_all_in_order, at-in_order}
use Rattle.comm_core.proofs.laws.comms_in_order_are_the_comms.Goals as goal

pub returns : goal.returns
returns c = record { order = λ m. put_all_in_order m.comms; same = λ m id d. at-in_order m.comms id d }
