use Rattle.std.proofs.Common.{None, refl, ap, sym, ◌∙◌}
use Rattle.std.proofs.lemmas.Result.{IfOk-weaker}
use Rattle.comm_core.specs.Machine.{Name}
use Rattle.comm_core.specs.Step.{AskTarget}
use Rattle.comm_core.specs.Tables.{machine_of}
use Rattle.comm_core.specs.Told.{asked}
use Rattle.comm_core.specs.declared.call.Call.TheVariants as call
use Rattle.comm_targets.specs.declared.event.Event.TheVariants as event
use Rattle.comm_core.proofs.Asking.{came_asked}
use Rattle.comm_core.proofs.Judging.{open_asks}
use Rattle.comm_core.proofs.evaluate.evaluate_open.Goals as goal

pub returns-in-Ok-clause-came : goal.returns-in-Ok-clause-came
returns-in-Ok-clause-came g c =
    let b = c.args.targets.now.all in
    let o = c.args.comms.now.all in
    let k = call.Open c.args.id c.args.target c.args.version c.args.body in
    let is = open_asks c.args.limit (machine_of b o) c.args.id c.args.target c.args.version c.args.body (sym c.contains.ensures ∙ c.if-contains.false) (sym c.contains-2.ensures ∙ c.if-not-contains.false) (sym c.is_full.ensures ∙ c.if-is_full.false) in
    let named = ap (λ (t : Name). AskTarget (asked t None (event.Open c.args.id c.args.version c.args.body))) c.in-Ok.ensures in
    IfOk-weaker c.ask.result _ _ (λ r h.
    came_asked c.args.limit b o k (asked c.in-Ok.name None (event.Open c.args.id c.args.version c.args.body)) r.outcome r.reply r.outgoing.items r.table_update c.ask.new.targets.all (named ∙ is) (λ bs. refl) h) c.ask.ensures.came
