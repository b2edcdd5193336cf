use Rattle.comm_script.proofs.Shelves.{idle_pushed}
use Rattle.comm_script.proofs.stock.push_target.Goals as goal

pub returns-clause-idle : goal.returns-clause-idle
returns-clause-idle g c = λ idle. idle_pushed g.T.Target.means c.args.stock.now.items _ c.args.target c.push.result c.push.ensures.items c.requires idle
