use Rattle.json.specs.Value.{value_view}
use Rattle.comm_value.proofs.ReadingLemmas.{if_some}
use Rattle.comm_reader.proofs.line.read_client.Goals as goal

pub returns-clause-reads : goal.returns-clause-reads
returns-clause-reads c = if_some c.client_in.result _ _ (λ m h. (value_view c.in_ok-value.value, c.in_ok-value.ensures.value, c.in_ok-value.ensures.fits, h)) c.client_in.ensures.value
