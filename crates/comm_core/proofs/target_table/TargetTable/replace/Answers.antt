use Rattle.std.proofs.Common.{ap, sym, ◌∙◌, refl, Some}
use Rattle.comm_targets.specs.Meaning.{Meaning}
use Rattle.comm_core.specs.Tables.{Table}
use Rattle.comm_core.specs.Machine.{with_at}
use Rattle.comm_core.proofs.Agreeing.{some-at}
use Rattle.comm_core.proofs.Boxed.{held, written, not_there}
use Rattle.comm_core.proofs.target_table.TargetTable.replace.Goals as goal

pub returns-clause-was : goal.returns-clause-was
returns-clause-was g c =
    held (λ n. n.name) (λ n. n.held) c.self.inside.all.items _ _ (ap (λ (t : Table Meaning). t.all) c.self.view_is)
    _ c.in-Some.i c.index_mut.result.now c.place_of.ensures c.in-Some.is c.index_mut.ensures.value
    ∙ ap Some (sym c.replace.ensures.value)

pub returns-clause-all : goal.returns-clause-all
returns-clause-all g c =
    written (λ n. n.name) (λ n. n.held) c.self.inside.all.items _ _ (ap (λ (t : Table Meaning). t.all) c.self.view_is)
    _ c.in-Some.i c.index_mut.result.now c.place_of.ensures c.in-Some.is c.index_mut.ensures.value _ refl
    ∙ ap (with_at c.args.self.now.all c.args.name.now) c.replace.ensures.after

pub unreachable-requires : goal.unreachable-requires
unreachable-requires g c =
    let m = some-at _ c.requires.here in
    absurd (not_there (λ n. n.name) (λ n. n.held) c.self.inside.all.items _ _ (ap (λ (t : Table Meaning). t.all) c.self.view_is) _ m.0 c.place_of.ensures c.in-None.is m.1)
