use Rattle.std.proofs.Common.{length}
use Rattle.json.specs.Json.{Members}
use Rattle.comm_reader.specs.Reader.{HasContent}
use Rattle.comm_reader.proofs.Walking.{HasSoFar}
use Rattle.comm_reader.proofs.content.read_members.Given as goal

abbrev pub invariant-loop-dict : goal.invariant-loop-dict
invariant-loop-dict l =
    (found : Members) × HasSoFar l.depth l.initial.reader found l.reader × HasContent l.numbers (record { dict = l.dict; comm_id = l.comm_id; target_name = l.target_name }) found

abbrev pub decreases-loop-dict : goal.decreases-loop-dict
decreases-loop-dict l = length l.reader
