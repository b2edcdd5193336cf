use Rattle.std.proofs.Common.{ℕ, true, [], ap, sym, ◌∙◌}
use Rattle.comm_core.specs.Ready.{state}
use Rattle.comm_shared.proofs.Opening.{stands_first}
use Rattle.comm_shared.proofs.manager.SharedManager.new.Goals as goal

pub invariant_of-result : goal.invariant_of-result
invariant_of-result g c =
    let o = c.in-Ok-history_of in
    stands_first o.writer c.in-Ok.core o.made.items o.ensures.entries o.ensures.clients (c.in-Ok.ensures.core ∙ ap (λ (l : ℕ). state l [] [] true) (sym o.ensures.limit)) o.ensures.made
