use Rattle.std.proofs.Common.{ap, sym, ◌∙◌, map}
use Rattle.comm_targets.specs.Meaning.{Meaning}
use Rattle.comm_core.specs.Tables.{Table}
use Rattle.comm_core.proofs.Boxed.{held, removed, absent}
use Rattle.comm_core.proofs.target_table.TargetTable.take.Goals as goal

pub returns-in-Some-clause-taken : goal.returns-in-Some-clause-taken
returns-in-Some-clause-taken g c =
    sym (held (λ n. n.name) (λ n. n.held) c.self.inside.all.items _ _ (ap (λ (t : Table Meaning). t.all) c.self.view_is)
    _ c.in-Some.i c.remove-name.result c.place_of.ensures c.in-Some.is c.remove-name.ensures.value)

pub returns-in-Some-clause-all : goal.returns-in-Some-clause-all
returns-in-Some-clause-all g c =
    ap (map _) c.remove-name.ensures.items
    ∙ removed (λ n. n.name) (λ n. n.held) c.self.inside.all.items _ _ (ap (λ (t : Table Meaning). t.all) c.self.view_is)
    _ c.in-Some.i c.remove-name.result c.place_of.ensures c.in-Some.is c.remove-name.ensures.value

pub returns-in-None-clause-taken : goal.returns-in-None-clause-taken
returns-in-None-clause-taken g c =
    sym (absent (λ n. n.name) (λ n. n.held) c.self.inside.all.items _ _ (ap (λ (t : Table Meaning). t.all) c.self.view_is) _ c.place_of.ensures c.in-None.is).0

pub returns-in-None-clause-all : goal.returns-in-None-clause-all
returns-in-None-clause-all g c =
    sym (absent (λ n. n.name) (λ n. n.held) c.self.inside.all.items _ _ (ap (λ (t : Table Meaning). t.all) c.self.view_is) _ c.place_of.ensures c.in-None.is).1
