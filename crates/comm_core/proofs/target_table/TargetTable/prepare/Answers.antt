use Rattle.std.proofs.Common.{◌≡◌, ap, ◌∙◌, refl, subst, option_map, IfOk, IfErr, ◌⊎◌}
use Rattle.std.proofs.lemmas.Result.{IfOk-weaker}
use Rattle.comm_targets.specs.Meaning.{Meaning, after_prepare}
use Rattle.comm_targets.specs.Answers.{Answers, Refuses}
use Rattle.comm_targets.specs.declared.fault.TargetFault.TheVariants as fault
use Rattle.comm_core.specs.Tables.{Table}
use Rattle.comm_core.specs.Machine.{with_at}
use Rattle.comm_core.proofs.Agreeing.{some-at}
use Rattle.comm_core.proofs.Boxed.{held, held-is, written, not_there}
use Rattle.comm_core.proofs.target_table.TargetTable.prepare.Goals as goal

pub prepare-requires-clause-unstaged : goal.prepare-requires-clause-unstaged
prepare-requires-clause-unstaged g c κs within =
    c.requires.unstaged _ (held (λ n. n.name) (λ n. n.held) c.self.inside.all.items _ _ (ap (λ (t : Table Meaning). t.all) c.self.view_is)
    _ c.in-Some.i c.index_mut.result.now c.place_of.ensures c.in-Some.is c.index_mut.ensures.value)

pub prepare-requires-clause-askable : goal.prepare-requires-clause-askable
prepare-requires-clause-askable g c κs within =
    c.requires.askable _ (held (λ n. n.name) (λ n. n.held) c.self.inside.all.items _ _ (ap (λ (t : Table Meaning). t.all) c.self.view_is)
    _ c.in-Some.i c.index_mut.result.now c.place_of.ensures c.in-Some.is c.index_mut.ensures.value)

pub returns-clause-staged : goal.returns-clause-staged
returns-clause-staged g c = λ m is.
    let all = ap (λ (t : Table Meaning). t.all) c.self.view_is in
    let same = held-is (λ n. n.name) (λ n. n.held) c.self.inside.all.items _ _ all
    _ c.in-Some.i c.index_mut.result.now c.place_of.ensures c.in-Some.is c.index_mut.ensures.value m is in
    IfOk-weaker c.prepare.result _ _ (λ a h.
    written (λ n. n.name) (λ n. n.held) c.self.inside.all.items _ _ all
    _ c.in-Some.i c.index_mut.result.now c.place_of.ensures c.in-Some.is c.index_mut.ensures.value _ refl
    ∙ ap (with_at c.args.self.now.all c.args.name.now) (h ∙ ap (λ (k : Meaning). after_prepare k (c.args.event.now) a) same)) c.prepare.ensures.staged

pub returns-clause-answers : goal.returns-clause-answers
returns-clause-answers g c = λ m is.
    let all = ap (λ (t : Table Meaning). t.all) c.self.view_is in
    let same = held-is (λ n. n.name) (λ n. n.held) c.self.inside.all.items _ _ all
    _ c.in-Some.i c.index_mut.result.now c.place_of.ensures c.in-Some.is c.index_mut.ensures.value m is in
    subst (λ (k : Meaning). IfOk c.prepare.result (λ a. Answers k.kind k.notes (option_map (λ x. x.now) c.args.now) (c.args.event.now) a)) same c.prepare.ensures.answers

pub returns-clause-refuses : goal.returns-clause-refuses
returns-clause-refuses g c = λ m is.
    let all = ap (λ (t : Table Meaning). t.all) c.self.view_is in
    let same = held-is (λ n. n.name) (λ n. n.held) c.self.inside.all.items _ _ all
    _ c.in-Some.i c.index_mut.result.now c.place_of.ensures c.in-Some.is c.index_mut.ensures.value m is in
    subst (λ (k : Meaning). IfErr c.prepare.result (λ f. (f ≡ fault.Memory) ⊎ Refuses k.kind k.notes (option_map (λ x. x.now) c.args.now) (c.args.event.now) f)) same c.prepare.ensures.refuses

pub unreachable-requires : goal.unreachable-requires
unreachable-requires g c =
    let m = some-at _ c.requires.here in
    absurd (not_there (λ n. n.name) (λ n. n.held) c.self.inside.all.items _ _ (ap (λ (t : Table Meaning). t.all) c.self.view_is) _ m.0 c.place_of.ensures c.in-None.is m.1)
