use Rattle.std.proofs.Common.{◌∙◌, ◌++◌, ◌∷◌, [], ap, sym}
use Rattle.ordered_table.specs.Table.{entries}
use Rattle.comm_core.specs.Machine.{Name}
use Rattle.comm_core.specs.Tables.{Table}
use Rattle.comm_core.specs.declared.comm.Comm.{Comm}
use Rattle.comm_core.proofs.Keys.{same_text}
use Rattle.comm_core.proofs.comms.Comms.insert.Goals as goal

pub returns : goal.returns
returns c =
    let put = c.insert.ensures in
    put.2 ∙ ap (λ (k : Name). entries c.self.inside.all ++ (k, c.args.comm) ∷ []) (sym (same_text c.args.id put.0 put.1))
    ∙ ap (λ (t : Table Comm). t.all ++ (c.args.id, c.args.comm) ∷ []) c.self.view_is
