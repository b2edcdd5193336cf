use Rattle.std.proofs.Common.{List, map, sym, subst, ap, ◌∙◌}
use Rattle.comm_script.specs.Stock.{AreIdle, IsPlace, IsWithout, Shelf, shelved, first_of, rest_of}
use Rattle.comm_script.proofs.Shelves.{taken_first, taken_none, idle_at, idle_without}
use Rattle.comm_script.proofs.stock.Stock.take.Goals as goal

pub invariant_of-self : goal.invariant_of-self
invariant_of-self g c =
    subst (λ (l : List g.row.T.Denot). AreIdle (map g.T.Target.means l)) (sym c.remove.ensures.items) (idle_without g.T.Target.means c.self.inside.targets.items c.in-Some.i c.self.invariant)

pub returns-in-Some-clause-taken : goal.returns-in-Some-clause-taken
returns-in-Some-clause-taken g c =
    let found = subst (λ (l : List g.row.T.Denot). IsPlace g.T.Target.means c.args.kind l c.in-Some.i) c.deref.ensures.value c.in-Some.ensures.found in
    (taken_first g.T.Target.means c.args.kind c.self.inside.targets.items c.in-Some.i c.remove.result found.within found.first (found.here c.remove.result) c.remove.ensures.value).0
    ∙ ap (λ (s : Shelf). first_of c.args.kind s.targets) c.self.view_is

pub returns-in-Some-clause-targets : goal.returns-in-Some-clause-targets
returns-in-Some-clause-targets g c =
    let found = subst (λ (l : List g.row.T.Denot). IsPlace g.T.Target.means c.args.kind l c.in-Some.i) c.deref.ensures.value c.in-Some.ensures.found in
    ap (λ (l : List g.row.T.Denot). shelved (map g.T.Target.means l)) c.remove.ensures.items
    ∙ (taken_first g.T.Target.means c.args.kind c.self.inside.targets.items c.in-Some.i c.remove.result found.within found.first (found.here c.remove.result) c.remove.ensures.value).1
    ∙ ap (λ (s : Shelf). rest_of c.args.kind s.targets) c.self.view_is

pub returns-in-Some-clause-idle : goal.returns-in-Some-clause-idle
returns-in-Some-clause-idle g c =
    let found = subst (λ (l : List g.row.T.Denot). IsPlace g.T.Target.means c.args.kind l c.in-Some.i) c.deref.ensures.value c.in-Some.ensures.found in
    idle_at g.T.Target.means c.self.inside.targets.items c.in-Some.i c.remove.result found.within c.remove.ensures.value c.self.invariant

pub returns-in-None-clause-taken : goal.returns-in-None-clause-taken
returns-in-None-clause-taken g c =
    let none = subst (λ (l : List g.row.T.Denot). IsWithout g.T.Target.means c.args.kind l) c.deref.ensures.value c.in-None.ensures.none in
    (taken_none g.T.Target.means c.args.kind c.self.inside.targets.items none).0 ∙ ap (λ (s : Shelf). first_of c.args.kind s.targets) c.self.view_is

pub returns-in-None-clause-targets : goal.returns-in-None-clause-targets
returns-in-None-clause-targets g c =
    let none = subst (λ (l : List g.row.T.Denot). IsWithout g.T.Target.means c.args.kind l) c.deref.ensures.value c.in-None.ensures.none in
    ap (λ (s : Shelf). s.targets) (sym c.self.view_is) ∙ (taken_none g.T.Target.means c.args.kind c.self.inside.targets.items none).1 ∙ ap (λ (s : Shelf). rest_of c.args.kind s.targets) c.self.view_is
