use Rattle.std.proofs.Common.{rules, ◌≡◌, List, ap, sym, subst, ◌∙◌}
use Rattle.std.specs.Prelude.{All}
use Rattle.std.specs.Mem.{manually_drop_value}
use Rattle.comm_core.specs.History.{has_end}
use Rattle.comm_core.specs.declared.entry.Entry.{Entry}
use Rattle.comm_manager.specs.UnderLock.{counts}
use Rattle.comm_manager.specs.declared.change_log.ChangeLog.{ChangeLog}
use Rattle.comm_versions.specs.Mine.{IsSettled}
use Rattle.comm_versions.specs.ClientView.{ClientView}
use Rattle.comm_manager.proofs.Growing.{has_end-end, counts-end}
use Rattle.comm_manager.proofs.inner.Inner.finish.Goals as goal

pub settle_clients-requires-clause-ended : goal.settle_clients-requires-clause-ended
settle_clients-requires-clause-ended g c = ap has_end c.in-Ok.ensures.stamp.0 ∙ has_end-end c.into_inner-log.result.journal.all

pub settle_clients-requires-clause-totals : goal.settle_clients-requires-clause-totals
settle_clients-requires-clause-totals g c =
    let log = c.into_inner-log.result in
    let same : log ≡ manually_drop_value c.self.inside.log = c.into_inner-log.ensures in
    let kept : log.totals ≡ counts log.journal.all = subst (λ (l : ChangeLog _ _). l.totals ≡ counts l.journal.all) (sym same) c.self.invariant.0.totals_are in
    kept ∙ sym (counts-end log.journal.all) ∙ ap counts (sym c.in-Ok.ensures.stamp.0)

pub returns-in-Ok-clause-settled : goal.returns-in-Ok-clause-settled
returns-in-Ok-clause-settled g c =
    subst (λ (l : List Entry). All (λ (w : ClientView). IsSettled l w) c.args.clients.items) (search (rules)) c.settle_clients.ensures
