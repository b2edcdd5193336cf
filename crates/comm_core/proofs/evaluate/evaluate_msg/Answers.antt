use Rattle.std.proofs.Common.{[], refl, sym}
use Rattle.std.proofs.lemmas.Result.{IfOk-weaker}
use Rattle.comm_core.specs.Tables.{machine_of}
use Rattle.comm_core.specs.Told.{asked}
use Rattle.comm_core.specs.declared.call.Call.TheVariants as call
use Rattle.comm_core.specs.declared.reply.Reply.TheVariants as reply
use Rattle.comm_targets.specs.declared.event.Event.TheVariants as event
use Rattle.comm_core.proofs.Asking.{came_asked, msg_asked}
use Rattle.comm_core.proofs.Judging.{came_reply, msg_asks, msg_none}
use Rattle.comm_core.proofs.evaluate.evaluate_msg.Goals as goal

pub ask_of_comm-requires-clause-asked : goal.ask_of_comm-requires-clause-asked
ask_of_comm-requires-clause-asked g c κs within =
    let x = c.in-Some.comm.now in
    msg_asked c.args.targets.now.all c.args.comms.now.all c.requires.agrees c.args.id c.args.id x x.target x.state c.args.body (sym c.in-Some.ensures) refl refl

pub returns-in-Some-clause-came : goal.returns-in-Some-clause-came
returns-in-Some-clause-came g c =
    let b = c.args.targets.now.all in
    let o = c.args.comms.now.all in
    let x = c.in-Some.comm.now in
    IfOk-weaker c.ask_of_comm.result _ _ (λ r h.
    came_asked c.args.limit b o (call.Msg c.args.id c.args.body) (asked x.target x.state (event.Msg c.args.id c.args.body)) r.outcome r.reply r.outgoing.items r.table_update c.ask_of_comm.new.targets.all
    (msg_asks c.args.limit (machine_of b o) c.args.id c.args.body x (sym c.in-Some.ensures)) (λ bs. refl) h) c.ask_of_comm.ensures.came

pub returns-in-None-clause-came : goal.returns-in-None-clause-came
returns-in-None-clause-came g c =
    let b = c.args.targets.now.all in
    let o = c.args.comms.now.all in
    let e = c.of_reply.ensures in
    came_reply c.args.limit b o (call.Msg c.args.id c.args.body) c.requires.none (λ bs. refl) c.of_reply.result reply.NoComm []
    (msg_none c.args.limit (machine_of b o) c.args.id c.args.body (sym c.in-None.ensures)) e.outcome e.reply e.outgoing e.table_update
