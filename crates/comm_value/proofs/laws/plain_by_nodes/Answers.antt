use Rattle.comm_value.proofs.PlainNodes.{at_places, elsewhere}
use Rattle.comm_value.proofs.laws.plain_by_nodes.Goals as goal

pub returns : goal.returns
returns c = record { places = λ t q s o h. at_places q s t o h; elsewhere = λ t p o h. elsewhere p t o h }
