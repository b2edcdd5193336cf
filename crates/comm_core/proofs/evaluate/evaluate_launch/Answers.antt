use Rattle.std.proofs.Common.{◌≡◌, [], None, refl, ap, sym, subst}
use Rattle.std.proofs.lemmas.Result.{IfOk-weaker}
use Rattle.comm_core.specs.Machine.{Name}
use Rattle.comm_core.specs.Step.{AskTarget, Done, judged}
use Rattle.comm_core.specs.Tables.{machine_of}
use Rattle.comm_core.specs.Told.{asked}
use Rattle.comm_core.specs.declared.call.Call.TheVariants as call
use Rattle.comm_targets.specs.declared.event.Event.TheVariants as event
use Rattle.comm_core.proofs.Asking.{came_asked}
use Rattle.comm_core.proofs.Judging.{came_reply}
use Rattle.comm_core.proofs.evaluate.evaluate_launch.Goals as goal

pub ask-requires-clause-asked : goal.ask-requires-clause-asked
ask-requires-clause-asked g c κs within = c.in-None.ensures.feasible c.args.state

pub returns-in-Some-clause-came : goal.returns-in-Some-clause-came
returns-in-Some-clause-came g c =
    let b = c.args.targets.now.all in
    let o = c.args.comms.now.all in
    let e = c.of_reply.ensures in
    let names = c.in-Ok.ensures in
    let is =
    subst (λ (t : Name). judged c.args.limit (machine_of b o) (call.Launch c.args.id t c.args.state) ≡ Done c.in-Some.reply [] (machine_of b o)) (ap (λ (x : Name × Name). x.1) names)
    (c.in-Some.ensures.refused c.args.id c.args.state (ap (λ (x : Name × Name). x.0) names)) in
    came_reply c.args.limit b o (call.Launch c.args.id c.args.target c.args.state) c.requires.none (λ bs. refl) c.of_reply.result c.in-Some.reply [] (sym is) e.outcome e.reply e.outgoing e.table_update

pub returns-in-None-clause-came : goal.returns-in-None-clause-came
returns-in-None-clause-came g c =
    let b = c.args.targets.now.all in
    let o = c.args.comms.now.all in
    let names = c.in-Ok.ensures in
    let q = asked c.in-Ok.target None (event.Launch c.in-Ok.id c.args.state) in
    let is =
    subst (λ (t : Name). judged c.args.limit (machine_of b o) (call.Launch c.args.id t c.args.state) ≡ AskTarget q) (ap (λ (x : Name × Name). x.1) names)
    (c.in-None.ensures.asked c.args.id c.args.state (ap (λ (x : Name × Name). x.0) names)) in
    IfOk-weaker c.ask.result _ _ (λ r h.
    came_asked c.args.limit b o (call.Launch c.args.id c.args.target c.args.state) q r.outcome r.reply r.outgoing.items r.table_update c.ask.new.targets.all (sym is) (λ bs. refl) h) c.ask.ensures.came
