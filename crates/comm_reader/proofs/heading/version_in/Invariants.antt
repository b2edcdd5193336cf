use Rattle.std.proofs.Common.{◌≡◌, length, codes, option_map}
use Rattle.json.specs.Json.{Members, string}
use Rattle.comm_json.specs.Behind.{get_member}
use Rattle.comm_reader.proofs.Walking.{HasSoFar}
use Rattle.comm_reader.proofs.heading.version_in.Given as goal

abbrev pub invariant-loop-key : goal.invariant-loop-key
invariant-loop-key l = (found : Members) × HasSoFar l.depth l.initial.reader found l.reader × (get_member (codes "version") found ≡ option_map (λ s. string s.now) l.version)

abbrev pub decreases-loop-key : goal.decreases-loop-key
decreases-loop-key l = length l.reader
