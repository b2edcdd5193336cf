-- What is read from JSON has no bytes in it.
use Rattle.std.proofs.Common.{◌≡◌, Some, false}
use Rattle.json.specs.Json as json
use Rattle.comm_value.specs.Tree.{Members}
use Rattle.comm_value.specs.Places.{members_have_bytes}
use Rattle.comm_value.specs.FromJson.{members_of}
use Rattle.comm_value.specs.declared.from_json.Numbers.{Numbers}
use Rattle.comm_value.proofs.NoBytes.{read_members}

pub no_bytes : (numbers : Numbers) (ms : json.Members) (d : Members) → members_of numbers ms ≡ Some d → members_have_bytes d ≡ false
no_bytes = read_members
