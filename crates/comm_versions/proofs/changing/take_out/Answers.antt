use Rattle.std.proofs.Common.{subst}
use Rattle.std.specs.Prelude.{Ok}
use Rattle.comm_versions.specs.Chunks.{IsPosition}
use Rattle.comm_versions.proofs.changing.take_out.Goals as goal

pub take_found-requires-clause-position : goal.take_found-requires-clause-position
take_found-requires-clause-position c =
    subst (λ ps. IsPosition ps c.args.id.now (record { chunk = c.in-Some.position.chunk; at = Ok c.in-Ok.i })) c.as_slice.ensures.value (c.is_found.ensures c.if-is_found.true)
