use Rattle.std.proofs.Common.{◌≡◌, take}
use Rattle.comm_value.proofs.buffer.Buffers.copy.Given as goal

abbrev pub invariant-loop-bytes : goal.invariant-loop-bytes
invariant-loop-bytes l = l.all.items ≡ take l.bytes-index l.bytes-items
