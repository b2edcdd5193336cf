use Rattle.comm_messages.proofs.WriteLemmas.{digit_written}
use Rattle.comm_messages.proofs.write.append_number.Goals as goal

pub returns-then-number-lt10 : goal.returns-then-number-lt10
returns-then-number-lt10 c = digit_written _ _ _ c.if-number-lt10.true c.in_ok-push.ensures.items
