use Rattle.std.proofs.Common.{◌≡◌, Some, false}
use Rattle.comm_json.specs.Behind.{members}
use Rattle.comm_value.specs.FromJson.{members_of}
use Rattle.comm_value.specs.Places.{members_have_bytes}
use Rattle.comm_value.proofs.Lists.{if_ok}
use Rattle.comm_value.proofs.NoBytes.{read_members}
use Rattle.comm_value.proofs.val.Dict.from_ref.Goals as goal

pub returns-clause-no_bytes : goal.returns-clause-no_bytes
returns-clause-no_bytes c =
    if_ok (λ d. members_of c.args.numbers (members c.args.json) ≡ Some d) (λ d. members_have_bytes d ≡ false) c.members_from.result (λ d h. read_members c.args.numbers (members c.args.json) d h) c.members_from.ensures.kept
