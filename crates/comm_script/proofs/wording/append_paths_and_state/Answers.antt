use Rattle.std.proofs.Common.{true}
use Rattle.std.specs.Prelude.{codes}
use Rattle.json.specs.Print.{quoted}
use Rattle.json.specs.Json.{member, no_members}
use Rattle.comm_json.specs.Text.{compact_text, members_text}
use Rattle.comm_value.specs.ToJson.{json_of}
use Rattle.comm_value.specs.View.{tree}
use Rattle.comm_value.specs.Paths.{paths_tree}
use Rattle.comm_script.proofs.Joining.{first_keyed}
use Rattle.comm_script.proofs.wording.append_paths_and_state.Goals as goal

pub returns : goal.returns
returns c =
    first_keyed (quoted (codes "buffer_paths")) (compact_text (json_of (paths_tree c.args.paths.now))) (members_text true (member (codes "state") (json_of (tree c.args.plain.now)) no_members)) c.args.out.now.items
    c.append_paths.new.out.items c.append_last.new.out.items c.in_ok-append_paths.ensures c.in_ok-append_last.ensures
