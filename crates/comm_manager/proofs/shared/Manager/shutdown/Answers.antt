use Rattle.std.proofs.Common.{List, sym, subst}
use Rattle.std.specs.Prelude.{All}
use Rattle.comm_core.specs.History.{IsLegal}
use Rattle.comm_core.specs.declared.entry.Entry.{Entry}
use Rattle.comm_versions.specs.Mine.{IsSettled}
use Rattle.comm_versions.specs.ClientView.{ClientView}
use Rattle.comm_manager.proofs.shared.Manager.shutdown.Goals as goal

pub returns-in-Ok-clause-history : goal.returns-in-Ok-clause-history
returns-in-Ok-clause-history g c = subst (λ (l : List Entry). g.S.HistoryStore.leaves c.in-Ok.farewell.history l) (sym c.in-Ok.ensures.untaken) c.in-Ok.ensures.history

pub returns-in-Ok-clause-legal : goal.returns-in-Ok-clause-legal
returns-in-Ok-clause-legal g c =
    subst (λ (l : List Entry). IsLegal g.M.History.limits.clients g.M.History.limits.comms l) (sym c.in-Ok.ensures.untaken) c.in-Ok.ensures.legal

pub returns-in-Ok-clause-settled : goal.returns-in-Ok-clause-settled
returns-in-Ok-clause-settled g c =
    subst (λ (l : List Entry). All (λ (w : ClientView). IsSettled l w) c.args.clients.items) (sym c.in-Ok.ensures.untaken) c.in-Ok.ensures.settled
