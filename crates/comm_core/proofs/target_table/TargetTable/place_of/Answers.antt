use Rattle.std.proofs.Common.{ap, sym, ◌∙◌, position}
use Rattle.std.specs.Str.{bytes_eq}
use Rattle.comm_targets.specs.Meaning.{Meaning}
use Rattle.comm_core.specs.Tables.{Table}
use Rattle.comm_core.proofs.Entries.{position-map}
use Rattle.comm_core.proofs.target_table.TargetTable.place_of.Goals as goal

pub returns : goal.returns
returns g c =
    c.place_in.ensures ∙ ap (position (λ n. bytes_eq c.args.name.now n.name)) c.deref.ensures.value
    ∙ sym (position-map (λ n. (n.name, n.held)) (λ e. bytes_eq c.args.name.now e.0) c.self.inside.all.items)
    ∙ ap (λ (t : Table Meaning). position (λ e. bytes_eq c.args.name.now e.0) t.all) c.self.view_is
