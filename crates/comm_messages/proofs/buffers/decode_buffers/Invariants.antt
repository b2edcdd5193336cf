use Rattle.std.proofs.Common.{◌≡◌, ◌-◌, length}
use Rattle.comm_json.specs.Behind.{items, items_count}
use Rattle.comm_messages.specs.Buffers.{buffers_from}
use Rattle.comm_messages.proofs.BufferLemmas.{after, rest}
use Rattle.comm_messages.proofs.buffers.decode_buffers.Given as goal

abbrev pub invariant-loop-text : goal.invariant-loop-text
invariant-loop-text l = buffers_from 0 (items l.texts) ≡ after l.all.items (rest (items l.texts) (length l.all.items))

abbrev pub decreases-loop-text : goal.decreases-loop-text
decreases-loop-text l = items_count (items l.texts) - length l.all.items
