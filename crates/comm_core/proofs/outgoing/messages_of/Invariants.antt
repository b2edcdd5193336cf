use Rattle.std.proofs.Common.{◌≡◌, ◌++◌, vec_len, reverse}
use Rattle.comm_core.specs.Step.{messages_of}
use Rattle.comm_core.proofs.outgoing.messages_of.Given as goal

abbrev pub invariant-loop-body : goal.invariant-loop-body
invariant-loop-body l = messages_of l.id l.rest.items ++ reverse l.all.items ≡ messages_of l.id l.fn.messages

abbrev pub decreases-loop-body : goal.decreases-loop-body
decreases-loop-body l = vec_len l.rest
