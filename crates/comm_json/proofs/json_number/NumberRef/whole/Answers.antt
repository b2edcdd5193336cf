use Rattle.std.proofs.Common.{◌∙◌, ap, sym}
use Rattle.comm_json.specs.Behind.{number_ref_text, whole_of}
use Rattle.comm_json.proofs.Wholes.{whole_read}
use Rattle.comm_json.proofs.json_number.NumberRef.whole.Goals as goal

pub returns-in-Read-clause-value : goal.returns-in-Read-clause-value
returns-in-Read-clause-value c = whole_read _ _ c.whole_in.ensures.value c.whole_in.ensures.within ∙ ap (λ r. whole_of (number_ref_text r)) (sym c.in-Read.is)
