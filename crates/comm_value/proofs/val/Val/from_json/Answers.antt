use Rattle.std.proofs.Common.{◌≡◌, Some, false}
use Rattle.serde_json.specs.View.{view}
use Rattle.serde_json.specs.Written.{outline}
use Rattle.comm_value.specs.declared.from_json.Numbers.TheVariants.{Whole}
use Rattle.comm_value.specs.FromJson.{tree_of}
use Rattle.comm_value.specs.Places.{has_bytes}
use Rattle.comm_value.specs.View.{tree}
use Rattle.comm_value.proofs.Lists.{if_ok}
use Rattle.comm_value.proofs.NoBytes.{read_value}
use Rattle.comm_value.proofs.val.Val.from_json.Goals as goal

pub returns-clause-no_bytes : goal.returns-clause-no_bytes
returns-clause-no_bytes c =
    if_ok (λ v. tree_of Whole (outline (view c.args.json.now)) ≡ Some (tree v)) (λ v. has_bytes (tree v) ≡ false) c.val_from.result (λ v h. read_value Whole (outline (view c.args.json.now)) (tree v) h) c.val_from.ensures.kept
