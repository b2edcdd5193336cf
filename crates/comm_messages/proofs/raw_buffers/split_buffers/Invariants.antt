use Rattle.std.proofs.Common.{◌≡◌, ◌++◌, drop}
use Rattle.comm_messages.specs.Buffers.{split_buffers}
use Rattle.comm_messages.proofs.raw_buffers.split_buffers.Given as goal

abbrev pub invariant-loop-size : goal.invariant-loop-size
invariant-loop-size l =
    l.all.items ++ split_buffers l.rest (drop l.size-index l.sizes) ≡ split_buffers l.bytes l.sizes
