use Rattle.std.proofs.Common.{◌≡◌, Some, false}
use Rattle.serde_json.specs.View.{members_view}
use Rattle.serde_json.specs.Written.{members_outline}
use Rattle.comm_value.specs.declared.from_json.Numbers.TheVariants.{Whole}
use Rattle.comm_value.specs.FromJson.{members_of}
use Rattle.comm_value.specs.Places.{members_have_bytes}
use Rattle.comm_value.proofs.Lists.{if_ok}
use Rattle.comm_value.proofs.NoBytes.{read_members}
use Rattle.comm_value.proofs.val.Dict.from_json.Goals as goal

pub returns-clause-no_bytes : goal.returns-clause-no_bytes
returns-clause-no_bytes c =
    if_ok (λ d. members_of Whole (members_outline (members_view c.args.json.now.entries)) ≡ Some d) (λ d. members_have_bytes d ≡ false) c.members_from.result (λ d h. read_members Whole (members_outline (members_view c.args.json.now.entries)) d h) c.members_from.ensures.kept
