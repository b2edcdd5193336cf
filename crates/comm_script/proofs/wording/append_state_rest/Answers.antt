use Rattle.std.proofs.Common.{[], ◌∷◌, true, false}
use Rattle.std.specs.Prelude.{codes}
use Rattle.json.specs.Print.{quoted}
use Rattle.json.specs.Json.{member, no_members}
use Rattle.comm_json.specs.Text.{items_text, members_text}
use Rattle.comm_value.specs.ToJson.{json_of}
use Rattle.comm_value.specs.View.{tree}
use Rattle.comm_messages.specs.Text.{buffer_texts}
use Rattle.comm_script.proofs.Joining.{signed_list}
use Rattle.comm_script.proofs.wording.append_state_rest.Goals as goal

pub returns : goal.returns
returns c =
    signed_list (44 ∷ []) (quoted (codes "buffers")) (items_text false (buffer_texts c.args.buffers.now)) (members_text true (member (codes "state") (json_of (tree c.args.plain.now)) no_members)) c.args.out.now.items
    c.append.new.out.items c.append_key.new.out.items c.append-2.new.out.items c.append_buffers.new.out.items c.append_last.new.out.items c.in_ok-append.ensures c.in_ok-append_key.ensures c.in_ok-append-2.ensures
    c.in_ok-append_buffers.ensures.is c.in_ok-append_last.ensures
