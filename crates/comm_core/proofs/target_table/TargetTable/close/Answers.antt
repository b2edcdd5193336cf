use Rattle.std.proofs.Common.{ap, ◌∙◌, refl}
use Rattle.comm_targets.specs.Meaning.{Meaning, is_open, after_close}
use Rattle.comm_core.specs.Tables.{Table}
use Rattle.comm_core.specs.Machine.{with_at}
use Rattle.comm_core.proofs.Boxed.{held, held-is, written, not_there}
use Rattle.comm_core.proofs.target_table.TargetTable.close.Goals as goal

pub close-requires-clause-unstaged : goal.close-requires-clause-unstaged
close-requires-clause-unstaged g c κs within =
    c.requires.unstaged _ (held (λ n. n.name) (λ n. n.held) c.self.inside.all.items _ _ (ap (λ (t : Table Meaning). t.all) c.self.view_is)
    _ c.in-Some.i c.index_mut.result.now c.place_of.ensures c.in-Some.is c.index_mut.ensures.value)

pub close-requires-clause-opened : goal.close-requires-clause-opened
close-requires-clause-opened g c κs within =
    ap (is_open c.index_mut.result.now.held) c.as_str.ensures
    ∙ c.requires.opened _ (held (λ n. n.name) (λ n. n.held) c.self.inside.all.items _ _ (ap (λ (t : Table Meaning). t.all) c.self.view_is)
    _ c.in-Some.i c.index_mut.result.now c.place_of.ensures c.in-Some.is c.index_mut.ensures.value)

pub returns-in-Some-clause-all : goal.returns-in-Some-clause-all
returns-in-Some-clause-all g c = λ m is.
    let all = ap (λ (t : Table Meaning). t.all) c.self.view_is in
    let same = held-is (λ n. n.name) (λ n. n.held) c.self.inside.all.items _ _ all
    _ c.in-Some.i c.index_mut.result.now c.place_of.ensures c.in-Some.is c.index_mut.ensures.value m is in
    written (λ n. n.name) (λ n. n.held) c.self.inside.all.items _ _ all
    _ c.in-Some.i c.index_mut.result.now c.place_of.ensures c.in-Some.is c.index_mut.ensures.value _ refl
    ∙ ap (with_at c.args.self.now.all c.args.name.now) (c.close.ensures ∙ ap (after_close c.index_mut.result.now.held) c.as_str.ensures ∙ ap (λ (k : Meaning). after_close k c.args.id.now) same)

pub returns-in_default-clause-all : goal.returns-in_default-clause-all
returns-in_default-clause-all g c = λ m is.
    absurd (not_there (λ n. n.name) (λ n. n.held) c.self.inside.all.items _ _ (ap (λ (t : Table Meaning). t.all) c.self.view_is)
    _ m c.place_of.ensures c.in_default.is is)
