use Rattle.std.proofs.Common.{◌≡◌, take}
use Rattle.json.specs.Print.{escape}
use Rattle.comm_value.proofs.json_string.few_are_plain.Given as goal

abbrev pub invariant-loop-byte : goal.invariant-loop-byte
invariant-loop-byte l = escape (take l.byte-index l.bytes) ≡ take l.byte-index l.bytes
