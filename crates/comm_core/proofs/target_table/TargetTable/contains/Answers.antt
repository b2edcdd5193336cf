use Rattle.std.proofs.Common.{ap, sym, ◌∙◌, is_some}
use Rattle.std.specs.Str.{bytes_eq}
use Rattle.comm_core.proofs.Entries.{is_some-position}
use Rattle.comm_core.proofs.Names.{has_target}
use Rattle.comm_core.proofs.target_table.TargetTable.contains.Goals as goal

pub returns : goal.returns
returns g c =
    c.is_some.ensures ∙ ap is_some c.place_of.ensures ∙ is_some-position (bytes_eq c.args.name.now) c.args.self.now.all
    ∙ sym (has_target c.args.self.now.all c.args.name.now)
