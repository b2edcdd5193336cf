use Rattle.std.proofs.Common.{◌≡◌, ap, ◌∙◌}
use Rattle.comm_messages.specs.Message.{incoming_in}
use Rattle.comm_value.proofs.ReadingLemmas.{if_some}
use Rattle.comm_reader.proofs.incoming.incoming_of.Goals as goal

pub returns-in-Close : goal.returns-in-Close
returns-in-Close c = if_some c.close_of.result _ _ (λ i h numbers from ms has rest. ap (λ t. incoming_in numbers t from ms) c.in-Close.is ∙ h numbers from ms has rest) c.close_of.ensures

pub returns-in-InfoRequest : goal.returns-in-InfoRequest
returns-in-InfoRequest c = if_some c.info_request_of.result _ _ (λ i h numbers from ms has rest. ap (λ t. incoming_in numbers t from ms) c.in-InfoRequest.is ∙ h numbers from ms has rest) c.info_request_of.ensures
