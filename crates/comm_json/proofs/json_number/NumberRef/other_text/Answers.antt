use Rattle.std.proofs.Common.{◌∙◌, ap, sym}
use Rattle.comm_json.specs.Behind.{number_ref_text, whole_of}
use Rattle.comm_json.proofs.Wholes.{no_text}
use Rattle.comm_json.proofs.json_number.NumberRef.other_text.Goals as goal

pub returns-in-Read : goal.returns-in-Read
returns-in-Read c =
    no_text _ _ c.whole_in.ensures.value c.whole_in.ensures.within (ap (λ r. whole_of (number_ref_text r)) (sym c.in-Read.is) ∙ c.requires) ∙ ap number_ref_text (sym c.in-Read.is)
