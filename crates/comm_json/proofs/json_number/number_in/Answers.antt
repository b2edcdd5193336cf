use Rattle.std.proofs.Common.{◌≡◌, drop, slice_index, true, false, ◌==◌, sym, ap, ◌∙◌, arith, take_all, length-drop}
use Rattle.fast_float.specs.Text.{scan}
use Rattle.serde_json.specs.Read.{number_of, number_from}
use Rattle.comm_json.proofs.json_number.number_in.Goals as goal

pub returns-then-has_minus : goal.returns-then-has_minus
unfolding number_of
returns-then-has_minus c =
    let bytes = c.as_bytes-bytes.result.now in
    let minus : (slice_index bytes 0 == 45) ≡ true = sym c.if-has_minus.ensures.minus in
    let parts : c.scan.result ≡ scan (drop 1 bytes) = c.scan.ensures.parts ∙ ap scan (take_all _ (drop 1 bytes) (omega (arith, length-drop 1 bytes))) in
    let is : number_from true (scan (drop 1 bytes)) ≡ number_of bytes = rw minus in
    c.below_zero.ensures ∙ ap (number_from true) parts ∙ is ∙ ap number_of c.as_bytes-bytes.ensures.value

pub returns-else-has_minus : goal.returns-else-has_minus
unfolding number_of
returns-else-has_minus c =
    let bytes = c.as_bytes-bytes.result.now in
    let plain : (slice_index bytes 0 == 45) ≡ false = sym c.if-has_minus.ensures.minus in
    let is : number_from false (scan bytes) ≡ number_of bytes = rw plain in
    c.above_zero.ensures ∙ ap (number_from false) c.scan-else-has_minus.ensures.parts ∙ is ∙ ap number_of c.as_bytes-bytes.ensures.value
