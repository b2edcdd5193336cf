use Rattle.std.specs.Prelude.{IfOk}
use Rattle.std.proofs.Common.{◌≡◌, sym, subst}
use Rattle.comm_core.specs.Ready.{IsReady, Readied, machine}
use Rattle.comm_core.specs.Row.{row_in}
use Rattle.comm_core.specs.declared.row.Row.{Row}
use Rattle.comm_core.proofs.prepared_change.Ready.row.Goals as goal

pub returns : goal.returns
returns g c s ready =
    let prepared = subst (λ (r : Readied). IsReady s r) (sym c.self.view_is) ready in
    subst (λ (r : Readied). IfOk c.row.result (λ (x : Row). x ≡ row_in (machine s) r.call r.outcome r.reply)) c.self.view_is (c.row.ensures s prepared c.self.invariant)
