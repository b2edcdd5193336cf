use Rattle.std.proofs.Common.{◌≡◌, ◌++◌, drop}
use Rattle.comm_script.specs.Words.{out_lines}
use Rattle.comm_script.proofs.wording.append_outs.Given as goal

abbrev pub invariant-loop-message : goal.invariant-loop-message
invariant-loop-message l = l.out.items ++ out_lines (drop l.message-index l.messages) l.parent ≡ l.initial.out.items ++ out_lines l.messages l.parent
