use Rattle.comm_value.proofs.PlaceLaws.{nodes, listed_is_place, place_is_listed}
use Rattle.comm_value.proofs.PathOrder.{paths_in_order}
use Rattle.comm_value.proofs.laws.paths_are_the_places.Goals as goal

pub returns : goal.returns
returns c = record {
  places = λ t p o. (listed_is_place t p o, place_is_listed t p);
  in_order = paths_in_order;
  buffers_there = nodes;
}
