use Rattle.std.proofs.Common.{◌≡◌, ◌<◌, length, false}
use Rattle.std.specs.Prelude.{IfSome}
use Rattle.json.specs.Json.{Members}
use Rattle.comm_value.specs.Places.{members_have_bytes}
use Rattle.comm_reader.specs.Reader.{HasLine}
use Rattle.comm_reader.proofs.Walking.{HasSoFar}
use Rattle.comm_reader.proofs.line.read_members.Given as goal

abbrev pub invariant-loop-key : goal.invariant-loop-key
invariant-loop-key l =
    ((found : Members) × HasSoFar l.depth l.initial.reader found l.reader × HasLine l.absent l.clients l.numbers l.line found)
    × IfSome l.line.content (λ c. members_have_bytes c.dict ≡ false) × (0 < l.clients → l.line.client < l.clients)

abbrev pub decreases-loop-key : goal.decreases-loop-key
decreases-loop-key l = length l.reader
