use Rattle.std.proofs.Common.{map}
use Rattle.std.proofs.lemmas.Result.{on_ok_weaker}
use Rattle.comm_script.specs.Stock.{shelved}
use Rattle.comm_script.proofs.running.run_with.Goals as goal

pub returns-in-Ok-clause-played : goal.returns-in-Ok-clause-played
returns-in-Ok-clause-played g c = on_ok_weaker c.play_script-played.result (λ says. says c.args.limits (shelved (map g.T.Target.means c.args.stock.items)) c.in-Ok.ensures.stands) c.play_script-played.ensures.played
