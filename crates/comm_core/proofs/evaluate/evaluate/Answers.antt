use Rattle.std.proofs.Common.{Ok}
use Rattle.comm_core.specs.declared.call.Call.TheVariants as call
use Rattle.comm_core.proofs.Judging.{judged_came, judged_told}
use Rattle.comm_core.proofs.evaluate.evaluate.Goals as goal

pub returns-in-Close-clause-came : goal.returns-in-Close-clause-came
returns-in-Close-clause-came g c = judged_came c.args.limit c.args.targets.now.all c.args.comms.now.all (call.Close c.in-Close.id) c.requires.none c.args.call c.in-Close.is (Ok c.judge_close.result) (c.judge_close.ensures.verdict c.args.limit c.args.targets.now.all) (c.judge_close.ensures.feasible c.args.targets.now.all)

pub returns-in-Close-clause-told : goal.returns-in-Close-clause-told
returns-in-Close-clause-told g c = judged_told c.args.limit c.args.targets.now.all c.args.comms.now.all (call.Close c.in-Close.id) (Ok c.judge_close.result) (c.judge_close.ensures.verdict c.args.limit c.args.targets.now.all)

pub returns-in-Unregister-clause-came : goal.returns-in-Unregister-clause-came
returns-in-Unregister-clause-came g c = judged_came c.args.limit c.args.targets.now.all c.args.comms.now.all (call.Unregister c.in-Unregister.name) c.requires.none c.args.call c.in-Unregister.is c.judge_unregister.result (c.judge_unregister.ensures.verdict c.args.limit) c.judge_unregister.ensures.feasible

pub returns-in-Unregister-clause-told : goal.returns-in-Unregister-clause-told
returns-in-Unregister-clause-told g c = judged_told c.args.limit c.args.targets.now.all c.args.comms.now.all (call.Unregister c.in-Unregister.name) c.judge_unregister.result (c.judge_unregister.ensures.verdict c.args.limit)

pub returns-in-Send-clause-came : goal.returns-in-Send-clause-came
returns-in-Send-clause-came g c = judged_came c.args.limit c.args.targets.now.all c.args.comms.now.all (call.Send c.in-Send.id c.in-Send.body) c.requires.none c.args.call c.in-Send.is c.judge_send.result (c.judge_send.ensures.verdict c.args.limit c.args.targets.now.all) (c.judge_send.ensures.feasible c.args.targets.now.all)

pub returns-in-Send-clause-told : goal.returns-in-Send-clause-told
returns-in-Send-clause-told g c = judged_told c.args.limit c.args.targets.now.all c.args.comms.now.all (call.Send c.in-Send.id c.in-Send.body) c.judge_send.result (c.judge_send.ensures.verdict c.args.limit c.args.targets.now.all)

pub returns-in-HangUp-clause-came : goal.returns-in-HangUp-clause-came
returns-in-HangUp-clause-came g c = judged_came c.args.limit c.args.targets.now.all c.args.comms.now.all (call.HangUp c.in-HangUp.id) c.requires.none c.args.call c.in-HangUp.is c.judge_hang_up.result (c.judge_hang_up.ensures.verdict c.args.limit c.args.targets.now.all) (c.judge_hang_up.ensures.feasible c.args.targets.now.all)

pub returns-in-HangUp-clause-told : goal.returns-in-HangUp-clause-told
returns-in-HangUp-clause-told g c = judged_told c.args.limit c.args.targets.now.all c.args.comms.now.all (call.HangUp c.in-HangUp.id) c.judge_hang_up.result (c.judge_hang_up.ensures.verdict c.args.limit c.args.targets.now.all)
