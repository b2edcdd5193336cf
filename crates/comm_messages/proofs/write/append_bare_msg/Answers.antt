use Rattle.comm_messages.proofs.WriteLemmas.{written, same_part, bare_msg}
use Rattle.comm_messages.proofs.write.append_bare_msg.Goals as goal

pub returns : goal.returns
returns c =
    same_part (bare_msg _ _ _ _ c.requires)
    (written c.in_ok-append.ensures (written c.in_ok-append_number.ensures (written c.in_ok-append_client.ensures
    (written c.in_ok-append-2.ensures (written c.in_ok-append_text.ensures (written c.in_ok-append_data.ensures c.in_ok-append-3.ensures))))))
