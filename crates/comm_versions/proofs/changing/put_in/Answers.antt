use Rattle.std.proofs.Common.{ap, subst, ◌∙◌}
use Rattle.comm_core.specs.Machine.{Name}
use Rattle.comm_core.specs.declared.comm.Comm.{Comm}
use Rattle.comm_versions.specs.Chunks.{IsPosition}
use Rattle.comm_versions.proofs.changing.put_in.Goals as goal

pub put_at-requires-clause-position : goal.put_at-requires-clause-position
put_at-requires-clause-position c =
    let k = c.args.comm.0 in
    let s = c.in-Some.position in
    let of_id = subst (λ n. IsPosition c.as_slice.result.now n s) (c.id.ensures ∙ ap (λ (e : Name × Comm). e.0) c.comm.ensures) (c.is_position.ensures c.if-is_position.true) in
    subst (λ ps. IsPosition ps k s) c.as_slice.ensures.value of_id
