use Rattle.std.proofs.lemmas.Result.{on_ok_weaker}
use Rattle.std.proofs.Common.{◌<◌, length, arith, ap, ◌∙◌}
use Rattle.comm_core.specs.Step.{Stepped}
use Rattle.comm_core.specs.Ready as core
use Rattle.comm_script.specs.declared.session.Session.{Session}
use Rattle.comm_script.proofs.Turns.{handless_free, step_of, stands_called}
use Rattle.comm_script.proofs.session.Session.change.Goals as goal

pub returns-clause-stands : goal.returns-clause-stands
returns-clause-stands g c = on_ok_weaker c.answer-answered.result (λ _. λ limits now stands.
    let inside : c.args.client < length c.args.self.now.made = omega arith in
    let S : Stepped = record { reply = c.in_ok-reply.reply; outgoing = c.in_ok-reply.outgoing.items; next = core.machine c.step.new.self } in
    let done = c.in_ok-reply.ensures.step in
    let counted = c.answer-answered.ensures.counted in
    stands_called limits now c.args.client c.args.call now.stock S c.args.self.now c.answer-answered.new.self stands
    (step_of limits now c.args.self.now c.args.call done.0 S c.exact_machines_leave_no_choice.ensures stands done.1 done.2) inside c.requires.client
    (ap (λ (s : Session g.row.T.Denot). s.limits) counted) (ap (λ (s : Session g.row.T.Denot). s.core.limit) counted ∙ c.step.ensures.limit) (ap (λ (s : Session g.row.T.Denot). core.machine s.core) counted)
    (c.steps_keep_machines_exact.ensures c.args.self.now.core.limit (core.machine c.args.self.now.core) c.args.call done.0 S stands.exact (handless_free c.args.call c.requires.call) done.2)
    (ap (λ (s : Session g.row.T.Denot). s.stock.targets) counted ∙ stands.stock) (ap (λ (s : Session g.row.T.Denot). s.changes) counted) (ap (λ (s : Session g.row.T.Denot). s.made) counted)) c.answer-answered.ensures.text
