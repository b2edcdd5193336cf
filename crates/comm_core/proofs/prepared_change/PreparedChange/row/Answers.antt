use Rattle.std.specs.Prelude.{IfOk}
use Rattle.std.proofs.Common.{◌≡◌, ◌∙◌, ap, sym, subst}
use Rattle.comm_core.specs.Planned.{updated_row}
use Rattle.comm_core.specs.Ready.{Readied}
use Rattle.comm_core.specs.declared.call.Call.{Call}
use Rattle.comm_core.specs.declared.row.Row.{Row}
use Rattle.comm_core.proofs.Planning.{planned_is}
use Rattle.comm_core.proofs.prepared_change.PreparedChange.row.Goals as goal

pub returns : goal.returns
returns g c s ready kept =
    let b = c.self.inside in
    let call = kept ∙ sym (ap (λ (r : Readied). r.call) c.self.view_is) in
    let same = ap (λ (r : Readied). updated_row r.table_update r.outcome r.call r.reply) c.self.view_is in
    subst (λ (x : Row). IfOk c.updated_row.result (λ r. r ≡ x)) (ap (λ (x : Call). updated_row b.table_update b.outcome x b.reply) call ∙ same ∙ planned_is s c.args.self.now ready) c.updated_row.ensures
