use Rattle.comm_outbox.specs.Order.{bounds}
use Rattle.comm_outbox.proofs.opening.outbox.Given as goal

abbrev pub ghosts-split : goal.ghosts-split
ghosts-split a = record { bounds = bounds a.clients a.comms }
