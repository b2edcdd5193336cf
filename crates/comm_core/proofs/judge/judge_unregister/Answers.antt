use Rattle.std.proofs.Common.{sym, ◌∙◌}
use Rattle.comm_core.proofs.Asking.{nobody_ends}
use Rattle.comm_core.proofs.judge.judge_unregister.Goals as goal

pub returns-then-not-contains-clause-feasible : goal.returns-then-not-contains-clause-feasible
returns-then-not-contains-clause-feasible g c =
    rw c.of_reply.ensures.table_update (tt, sym (nobody_ends c.args.targets.now.all c.args.name (sym c.contains.ensures ∙ c.if-not-contains.true)))
