use Rattle.std.proofs.Common.{◌≡◌, take}
use Rattle.comm_versions.specs.IdPrefixes.{padded}
use Rattle.comm_versions.proofs.prefixed_comm.padded_bytes.Given as goal

abbrev pub invariant-loop-i : goal.invariant-loop-i
invariant-loop-i l = l.prefix ≡ padded 8 (take l.i l.bytes)
