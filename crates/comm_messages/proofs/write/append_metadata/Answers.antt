use Rattle.comm_messages.proofs.WriteLemmas.{written, same_part, open_metadata}
use Rattle.comm_messages.proofs.write.append_metadata.Goals as goal

pub returns-in_ok-append-in-Open-2 : goal.returns-in_ok-append-in-Open-2
returns-in_ok-append-in-Open-2 c =
    same_part (open_metadata _ _ _ _ _ c.in-Open.is)
    (written c.in_ok-append-in-Open.ensures (written c.in_ok-append_text-in-Open.ensures c.in_ok-append-in-Open-2.ensures))
