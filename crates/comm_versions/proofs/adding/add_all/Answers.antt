use Rattle.std.proofs.Common.{◌≡◌, ◌∷◌, ◌++◌, List, subst}
use Rattle.std.specs.Arc.{arc_value}
use Rattle.comm_versions.specs.declared.adding.PendingEntry.{PendingEntry}
use Rattle.comm_core.specs.History.{IsLegal}
use Rattle.comm_versions.specs.Pending.{entries_in}
use Rattle.comm_versions.proofs.Legal.{first_legal}
use Rattle.comm_versions.proofs.adding.add_all.Goals as goal

pub add-requires-clause-legal : goal.add-requires-clause-legal
add-requires-clause-legal g c =
    let is : c.loop-pending_entry.pending.items ≡ c.in-Some.pending_entry ∷ c.pop_front.new.self.items = c.in-Some.ensures.items in
    let P = λ (l : List PendingEntry). IsLegal g.M.History.limits.clients g.M.History.limits.comms (c.loop-pending_entry.front ++ entries_in l) in
    first_legal g.M.History.limits.clients g.M.History.limits.comms c.prefixes_of_legal_histories_are_legal.ensures c.loop-pending_entry.front (arc_value c.in-Some.pending_entry.entry) (entries_in c.pop_front.new.self.items) (subst P is c.loop-pending_entry.invariant.2)
