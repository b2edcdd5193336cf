use Rattle.std.proofs.lemmas.Result.{on_ok_weaker}
use Rattle.std.proofs.Common.{◌≡◌, ◌<◌, length, None, Some, arith, ap, sym, subst, ◌∙◌}
use Rattle.comm_targets.specs.Meaning.{Meaning}
use Rattle.comm_core.specs.declared.call.Call.{Call}
use Rattle.comm_core.specs.declared.call.Call.TheVariants as call
use Rattle.comm_core.specs.Step.{Stepped}
use Rattle.comm_core.specs.Ready as core
use Rattle.comm_core.specs.Tables.{registered_of}
use Rattle.comm_script.specs.Stock.{first_of, rest_of}
use Rattle.comm_script.specs.Played.{Turn, registered}
use Rattle.comm_script.specs.Session.{Stands}
use Rattle.comm_script.specs.declared.session.Session.{Session}
use Rattle.comm_script.proofs.Turns.{step_of, stands_called, first_fits, rest_without, unasked}
use Rattle.comm_script.proofs.session.Session.register.Goals as goal

pub returns-in_ok-append_bad-in-None-clause-stands : goal.returns-in_ok-append_bad-in-None-clause-stands
returns-in_ok-append_bad-in-None-clause-stands g c = λ limits now stands.
    let none : first_of c.args.kind now.stock ≡ None = ap (first_of c.args.kind) (sym stands.stock) ∙ sym c.in-None.ensures.taken in
    let kept : Session g.row.T.Denot = record { limits = c.args.self.now.limits; core = c.args.self.now.core; stock = c.take.new.self; changes = c.args.self.now.changes; made = c.args.self.now.made } in
    subst (λ (t : Turn). Stands limits t.after kept)
    (sym (ap (registered limits now c.args.number c.args.client c.args.kind c.args.name) none))
    (record {
      same = stands.same;
      limit = stands.limit;
      machine = stands.machine;
      exact = stands.exact;
      stock = c.in-None.ensures.targets ∙ rest_without c.args.kind c.args.self.now.stock.targets (sym c.in-None.ensures.taken) ∙ stands.stock;
      changes = stands.changes;
      made = stands.made;
    })

pub returns-in-Ok-clause-stands : goal.returns-in-Ok-clause-stands
returns-in-Ok-clause-stands g c = on_ok_weaker c.answer-answered.result (λ _. λ limits now stands.
    let inside : c.args.client < length c.args.self.now.made = omega arith in
    let m : Meaning = g.T.Target.means c.in-Some.target in
    let asked : Call = call.Register c.args.name m.kind m.notes in
    let S : Stepped = record { reply = c.in-Ok.reply; outgoing = c.in-Ok.outgoing.items; next = core.machine c.register.new.self } in
    let counted = c.answer-answered.ensures.counted in
    let first : first_of c.args.kind now.stock ≡ Some (registered_of m) = ap (first_of c.args.kind) (sym stands.stock) ∙ sym c.in-Some.ensures.taken in
    let is = step_of limits now c.args.self.now asked None S c.exact_machines_leave_no_choice.ensures stands (unasked c.args.self.now.core.limit (core.machine c.args.self.now.core) c.args.name m.kind m.notes) c.in-Ok.ensures.step in
    let shelf : c.take.new.self.targets ≡ rest_of c.args.kind now.stock = c.in-Some.ensures.targets ∙ ap (rest_of c.args.kind) stands.stock in
    subst (λ (t : Turn). Stands limits t.after c.answer-answered.new.self)
    (sym (ap (registered limits now c.args.number c.args.client c.args.kind c.args.name) first))
    (stands_called limits now c.args.client asked (rest_of c.args.kind now.stock) S c.args.self.now c.answer-answered.new.self stands is inside c.requires.client (ap (λ (s : Session g.row.T.Denot). s.limits) counted)
    (ap (λ (s : Session g.row.T.Denot). s.core.limit) counted ∙ c.register.ensures.limit) (ap (λ (s : Session g.row.T.Denot). core.machine s.core) counted)
    (c.steps_keep_machines_exact.ensures c.args.self.now.core.limit (core.machine c.args.self.now.core) asked None S stands.exact
    (first_fits c.args.kind c.args.self.now.stock.targets (registered_of m) (sym c.in-Some.ensures.taken)) c.in-Ok.ensures.step) (ap (λ (s : Session g.row.T.Denot). s.stock.targets) counted ∙ shelf)
    (ap (λ (s : Session g.row.T.Denot). s.changes) counted) (ap (λ (s : Session g.row.T.Denot). s.made) counted))) c.answer-answered.ensures.text
