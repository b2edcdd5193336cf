use Rattle.std.proofs.Common.{◌≡◌, ◌++◌, List, length}
use Rattle.std.specs.Prelude.{All}
use Rattle.comm_manager.specs.UnderLock.{counts}
use Rattle.comm_versions.specs.Mine.{IsSettled}
use Rattle.comm_versions.specs.ClientView.{ClientView}
use Rattle.comm_manager.proofs.inner.settle_clients.Given as goal

abbrev pub decreases-loop-client : goal.decreases-loop-client
decreases-loop-client g l = length l.clients.items

abbrev pub invariant-loop-client : goal.invariant-loop-client
invariant-loop-client g l =
    (rest : List ClientView) × (l.fn.clients.items ≡ l.clients.items ++ rest) × All (λ w. IsSettled l.last w) rest × (l.totals ≡ counts l.last)
