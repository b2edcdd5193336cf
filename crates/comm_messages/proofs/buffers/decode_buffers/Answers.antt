use Rattle.std.proofs.Common.{◌≡◌, length, Some, None, Ok, sym, ap, ◌∙◌, arith}
use Rattle.std.proofs.lemmas.Result.{err_from_is_err_and}
use Rattle.json.specs.Find.{get_item}
use Rattle.comm_json.specs.Behind.{items}
use Rattle.comm_json.specs.Behind.{behind as of_ref}
use Rattle.comm_value.specs.Gives.{or_fault}
use Rattle.comm_messages.specs.Buffers.{buffer_of}
use Rattle.comm_messages.specs.declared.fault.MessageFault.TheVariants.{BadBuffer}
use Rattle.comm_messages.proofs.BufferLemmas.{one_more, one_fails, none_left, fails_too}
use Rattle.comm_messages.proofs.buffers.decode_buffers.Goals as goal

pub returns-in_err-decode_buffer : goal.returns-in_err-decode_buffer
returns-in_err-decode_buffer c =
    let ds = items c.args.texts in
    let here : length c.loop-text.all.items ≡ c.len-in-loop-text.result = omega arith in
    let number : length c.loop-text.all.items ≡ c.len-in-Some.result = omega arith in
    let at : get_item (length c.loop-text.all.items) ds ≡ Some (of_ref c.in-Some.text) = ap (λ n. get_item n ds) here ∙ sym c.in-Some.ensures.item in
    let p = err_from_is_err_and c.from_residual-in_err-decode_buffer.result c.from_residual-in_err-decode_buffer.ensures.1 in
    rw (p.1, p.2) (fails_too c.in_err-decode_buffer.field-0.0 _ _
    (λ is. one_fails ds (of_ref c.in-Some.text) c.loop-text.all.items c.in_err-decode_buffer.field-0.0 _ at (ap (λ n. or_fault (BadBuffer n) (buffer_of (of_ref c.in-Some.text))) number ∙ is) c.loop-text.invariant)
    c.in_err-decode_buffer.ensures)

pub loop-text-preserved : goal.loop-text-preserved
loop-text-preserved c =
    let ds = items c.args.texts in
    let here : length c.loop-text.all.items ≡ c.len-in-loop-text.result = omega arith in
    let number : length c.loop-text.all.items ≡ c.len-in-Some.result = omega arith in
    let at : get_item (length c.loop-text.all.items) ds ≡ Some (of_ref c.in-Some.text) = ap (λ n. get_item n ds) here ∙ sym c.in-Some.ensures.item in
    one_more ds (of_ref c.in-Some.text) c.loop-text.all.items c.push.new.self.items c.in_ok-decode_buffer.field-0 _ at
    (ap (λ n. or_fault (BadBuffer n) (buffer_of (of_ref c.in-Some.text))) number ∙ c.in_ok-decode_buffer.ensures) c.in_ok-push.ensures.items c.loop-text.invariant

pub returns : goal.returns
returns c =
    let ds = items c.args.texts in
    let here : length c.loop-text.all.items ≡ c.len-in-loop-text.result = omega arith in
    let none : get_item (length c.loop-text.all.items) ds ≡ None = ap (λ n. get_item n ds) here ∙ sym c.in_default.ensures.item in
    none_left ds c.loop-text.all.items _ none c.loop-text.invariant ∙ ap Ok (sym c.new.ensures)
