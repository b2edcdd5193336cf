use Rattle.std.proofs.Common.{subst}
use Rattle.comm_core.proofs.Stopping.{AllAgree, all_agree, all_but}
use Rattle.comm_core.proofs.target_table.TargetTable.end_all.Goals as goal

pub close_those_of-requires-clause-ids : goal.close_those_of-requires-clause-ids
close_those_of-requires-clause-ids g c κs within = (all_but _ _ _ _ (subst (λ l. AllAgree l c.args.comms.now.all) c.in-Some.ensures.all c.loop-name.invariant)).1

pub close_those_of-requires-clause-unstaged : goal.close_those_of-requires-clause-unstaged
close_those_of-requires-clause-unstaged g c κs within = (all_but _ _ _ _ (subst (λ l. AllAgree l c.args.comms.now.all) c.in-Some.ensures.all c.loop-name.invariant)).2

pub loop-name-preserved : goal.loop-name-preserved
loop-name-preserved g c = (all_but _ _ _ _ (subst (λ l. AllAgree l c.args.comms.now.all) c.in-Some.ensures.all c.loop-name.invariant)).0

pub loop-name-init : goal.loop-name-init
loop-name-init g c = all_agree _ _ c.requires
