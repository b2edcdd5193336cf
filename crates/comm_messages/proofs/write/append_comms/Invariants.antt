use Rattle.std.proofs.Common.{◌≡◌, ◌++◌, false}
use Rattle.comm_json.specs.Text.{members_text}
use Rattle.comm_messages.specs.Text.{comm_members}
use Rattle.comm_messages.proofs.WriteLemmas.{comms_rest}
use Rattle.comm_messages.proofs.write.append_comms.Given as goal

abbrev pub invariant-loop-number : goal.invariant-loop-number
invariant-loop-number l = l.out.items ++ comms_rest l.info-items l.number ≡ l.initial.out.items ++ members_text false (comm_members l.info-items)
