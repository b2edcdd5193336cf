use Rattle.std.proofs.Common.{sym}
use Rattle.comm_messages.proofs.WriteLemmas.{written, same_part}
use Rattle.comm_messages.proofs.ToldText.{told_text}
use Rattle.comm_messages.proofs.outgoing_body.OutgoingBody.write_json.Goals as goal

pub returns : goal.returns
returns c =
    let text = told_text _ _ c.self.inside.body _ _ _ c.in-Some.is (sym c.self.view_is) c.content-2.ensures.content c.before_state.ensures in
    let whole = same_part text (written (record { is = c.in_ok-extend_from_slice.ensures.items })
    (written (record { is = c.in_ok-write_json.ensures }) (record { is = c.in_ok-extend_from_slice-2.ensures.items }))) in
    whole.is
