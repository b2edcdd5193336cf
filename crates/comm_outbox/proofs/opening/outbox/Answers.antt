use Rattle.comm_outbox.proofs.Carrying.{begins}
use Rattle.comm_outbox.proofs.opening.outbox.Goals as goal

pub ruled-requires-clause-rule : goal.ruled-requires-clause-rule
ruled-requires-clause-rule c = begins
