use Rattle.comm_messages.proofs.WriteLemmas.{written, same_part, text_in_parts}
use Rattle.comm_messages.proofs.write.append_message.Goals as goal

pub returns : goal.returns
returns c = rw (c.in-Msg.is, c.in-Call.is) c.in_ok-append_bare_msg.ensures.is

pub returns-2 : goal.returns-2
returns-2 c =
    let whole = same_part (text_in_parts c.args.message.now c.args.parent.now)
    (written c.in_ok-append.ensures (written c.in_ok-append_buffers_of.ensures (written c.in_ok-append_parent.ensures
    (written c.in_ok-append-2.ensures (written c.in_ok-append_content.ensures (written c.in_ok-append_front.ensures c.in_ok-append_end.ensures)))))) in
    whole.is
