use Rattle.std.proofs.Common.{[], ◌∷◌}
use Rattle.json.specs.Print.{quoted}
use Rattle.comm_json.specs.Text.{compact_text}
use Rattle.comm_value.specs.ToJson.{json_of}
use Rattle.comm_value.specs.View.{tree}
use Rattle.comm_script.proofs.Joining.{signed_key}
use Rattle.comm_script.proofs.wording.append_last.Goals as goal

pub returns : goal.returns
returns c =
    signed_key (44 ∷ []) (quoted c.args.key.now) (compact_text (json_of (tree c.args.value.now))) (125 ∷ []) c.args.out.now.items c.append.new.out.items c.append_key.new.out.items c.write_json.new.out.items
    c.append-2.new.out.items c.in_ok-append.ensures c.in_ok-append_key.ensures c.in_ok-write_json.ensures c.in_ok-append-2.ensures
