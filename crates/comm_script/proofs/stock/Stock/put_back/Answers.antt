use Rattle.std.proofs.Common.{List, map, sym, subst}
use Rattle.comm_script.specs.Stock.{AreIdle}
use Rattle.comm_script.proofs.Shelves.{idle_with}
use Rattle.comm_script.proofs.stock.Stock.put_back.Goals as goal

pub invariant_of-self : goal.invariant_of-self
invariant_of-self g c =
    subst (λ (l : List g.row.T.Denot). AreIdle (map g.T.Target.means l)) (sym c.push_reserved.ensures.items)
    (idle_with g.T.Target.means c.self.inside.targets.items c.args.target c.self.invariant c.requires.idle)
