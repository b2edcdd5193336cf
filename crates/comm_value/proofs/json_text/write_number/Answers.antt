use Rattle.std.proofs.Common.{◌++◌, sym, ap, ◌∙◌}
use Rattle.std.proofs.lemmas.Fmt.{decimal_digit}
use Rattle.comm_value.proofs.json_text.write_number.Goals as goal

pub returns-then-number-lt10 : goal.returns-then-number-lt10
returns-then-number-lt10 c = c.in_ok-push_byte.ensures ∙ ap (λ l. c.args.out.now.items ++ l) (sym (decimal_digit c.args.number c.if-number-lt10.true))
