use Rattle.comm_value.proofs.ReadingLemmas.{if_some}
use Rattle.comm_script.proofs.AtOnce.{asked_of_push}
use Rattle.comm_script.proofs.line.pushed_at_once.Goals as goal

pub returns-then-starts_with : goal.returns-then-starts_with
returns-then-starts_with c = if_some c.push_at_once.result _ _ (λ p h clients. asked_of_push c.args.numbers clients c.args.line.now (p.0, p.1) h) c.push_at_once.ensures
