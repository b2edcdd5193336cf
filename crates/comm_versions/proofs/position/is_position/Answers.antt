use Rattle.std.proofs.Common.{sym, subst}
use Rattle.comm_versions.specs.Chunks.{IsPosition}
use Rattle.comm_versions.proofs.position.is_position.Goals as goal

pub returns-in-Ok : goal.returns-in-Ok
returns-in-Ok c holds = subst (λ a. IsPosition c.args.chunks.now c.args.id.now (record { chunk = c.args.position.now.chunk; at = a })) (sym c.in-Ok.is) (c.is_found.ensures holds)

pub returns-in-Err : goal.returns-in-Err
returns-in-Err c holds = subst (λ a. IsPosition c.args.chunks.now c.args.id.now (record { chunk = c.args.position.now.chunk; at = a })) (sym c.in-Err.is) (c.is_gap.ensures holds)
