use Rattle.std.proofs.Common.{ap, get_or, set, ◌∙◌, arith, add-one}
use Rattle.comm_versions.proofs.IdPrefixes.{set_padded}
use Rattle.comm_versions.proofs.prefixed_comm.padded_bytes.Goals as goal

pub loop-i-preserved : goal.loop-i-preserved
loop-i-preserved c =
    let bytes = c.args.bytes.now in
    rw add-one (ap (λ s. set s c.loop-i.i (get_or bytes c.loop-i.i 0)) c.loop-i.invariant ∙ set_padded 8 bytes c.loop-i.i 0 (omega arith) (omega arith))
