use Rattle.std.proofs.Common.{◌≡◌, take}
use Rattle.comm_core.proofs.entry.Outgoings.copy_of.Given as goal

abbrev pub invariant-loop-message : goal.invariant-loop-message
invariant-loop-message l = l.all.items ≡ take l.message-index l.messages
