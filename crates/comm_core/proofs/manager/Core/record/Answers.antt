use Rattle.std.proofs.Common.{None, ◌∙◌, ap, sym, subst}
use Rattle.comm_core.specs.Evaluated.{evaluated}
use Rattle.comm_core.specs.Planned.{updated_row}
use Rattle.comm_core.specs.Ready.{Readied, HasStagedAnswer, IsReady}
use Rattle.comm_core.specs.declared.call.Call.{Call}
use Rattle.comm_core.proofs.Planning.{planned_is}
use Rattle.comm_core.proofs.manager.Core.record.Goals as goal

pub returns-in-Ok-record_of-clause-row : goal.returns-in-Ok-record_of-clause-row
returns-in-Ok-record_of-clause-row g c =
    let d = c.in-Ok-record_of.recording.change in
    let same = c.in-Ok-record_of.ensures.change ∙ ap (λ (k : Call). evaluated k c.in-Ok-ready.evaluation None) c.in-Ok.ensures in
    let ready = subst (IsReady c.ready.new.self) (sym same) c.in-Ok-ready.ensures.ready in
    c.in-Ok-record_of.ensures.row ∙ ap (λ (r : Readied). updated_row r.table_update r.outcome r.call r.reply) (sym c.in-Ok-record_of.ensures.change) ∙ planned_is c.ready.new.self d ready

pub returns-in-Ok-record_of-clause-staged : goal.returns-in-Ok-record_of-clause-staged
returns-in-Ok-record_of-clause-staged g c =
    let same = c.in-Ok-record_of.ensures.change ∙ ap (λ (k : Call). evaluated k c.in-Ok-ready.evaluation None) c.in-Ok.ensures in
    subst (HasStagedAnswer c.args.self.now c.ready.new.self.targets) (sym same) c.in-Ok-ready.ensures.staged
