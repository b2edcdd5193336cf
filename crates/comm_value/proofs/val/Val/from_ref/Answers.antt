use Rattle.std.proofs.Common.{◌≡◌, Some, false}
use Rattle.comm_json.specs.Behind.{behind}
use Rattle.comm_value.specs.FromJson.{tree_of}
use Rattle.comm_value.specs.Places.{has_bytes}
use Rattle.comm_value.specs.View.{tree}
use Rattle.comm_value.proofs.Lists.{if_ok}
use Rattle.comm_value.proofs.NoBytes.{read_value}
use Rattle.comm_value.proofs.val.Val.from_ref.Goals as goal

pub returns-clause-no_bytes : goal.returns-clause-no_bytes
returns-clause-no_bytes c =
    if_ok (λ v. tree_of c.args.numbers (behind c.args.json) ≡ Some (tree v)) (λ v. has_bytes (tree v) ≡ false) c.val_from.result (λ v h. read_value c.args.numbers (behind c.args.json) (tree v) h) c.val_from.ensures.kept
