use Rattle.std.proofs.Common.{◌≡◌}
use Rattle.shared_script.proofs.session.SharedSession.publish.Given as goal

abbrev pub invariant-loop : goal.invariant-loop
invariant-loop g l = (l.self.clients ≡ l.initial.self.clients) × (l.self.sequencer ≡ l.initial.self.sequencer)
