use Rattle.std.proofs.Common.{◌≡◌, sym, ap, ◌∙◌}
use Rattle.comm_json.specs.Behind.{text_value, line_value}
use Rattle.comm_json.proofs.LookUp.{of_utf8, not_utf8}
use Rattle.comm_json.proofs.reading.read_among.Goals as goal

pub returns-in-Ok-clause-value : goal.returns-in-Ok-clause-value
returns-in-Ok-clause-value c =
    let same : line_value c.args.line.now ≡ text_value c.in-Ok.text.now = of_utf8 _ c.in-Ok.ensures.cases.1 ∙ ap text_value (sym c.in-Ok.ensures.cases.0) in
    rw same c.read_text.ensures.value

pub returns-in-Ok-clause-fault : goal.returns-in-Ok-clause-fault
returns-in-Ok-clause-fault c =
    let same : line_value c.args.line.now ≡ text_value c.in-Ok.text.now = of_utf8 _ c.in-Ok.ensures.cases.1 ∙ ap text_value (sym c.in-Ok.ensures.cases.0) in
    rw same c.read_text.ensures.fault

pub returns-in-Err-clause-fault : goal.returns-in-Err-clause-fault
returns-in-Err-clause-fault c is = not_utf8 _ c.in-Err.ensures.cases.0
