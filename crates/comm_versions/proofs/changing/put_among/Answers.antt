use Rattle.std.proofs.Common.{ap, set, ◌∙◌}
use Rattle.comm_versions.proofs.Positions.{set_there, insert_there}
use Rattle.comm_versions.proofs.changing.put_among.Goals as goal

pub returns-in-Ok : goal.returns-in-Ok
returns-in-Ok c = ap (set c.args.comms.now.items c.in-Ok.i) c.replace.ensures ∙ set_there c.args.comms.now.items c.args.at c.in-Ok.i c.args.comm c.requires c.in-Ok.is

pub returns-in_ok-insert-in-Err : goal.returns-in_ok-insert-in-Err
returns-in_ok-insert-in-Err c = insert_there c.args.comms.now.items c.insert.new.self.items c.args.at c.in-Err.i c.args.comm c.requires c.in-Err.is c.in_ok-insert-in-Err.ensures.items
