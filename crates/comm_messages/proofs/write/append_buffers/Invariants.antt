use Rattle.std.proofs.Common.{◌≡◌, ◌++◌, false}
use Rattle.comm_json.specs.Text.{items_text}
use Rattle.comm_messages.specs.Text.{buffer_texts}
use Rattle.comm_messages.proofs.WriteLemmas.{rest}
use Rattle.comm_messages.proofs.write.append_buffers.Given as goal

abbrev pub invariant-loop-number : goal.invariant-loop-number
invariant-loop-number l = l.out.items ++ rest l.buffer-items l.number ≡ l.initial.out.items ++ items_text false (buffer_texts l.buffer-items)
