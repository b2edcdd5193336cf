use Rattle.std.proofs.Common.{◌≡◌, Less, ap, sym, ◌∙◌}
use Rattle.std.specs.Int.{to_be_bytes, w64}
use Rattle.comm_core.specs.Machine.{Name}
use Rattle.comm_core.specs.declared.comm.Comm.{Comm}
use Rattle.comm_versions.specs.Chunks.{id_cmp}
use Rattle.comm_versions.specs.IdPrefixes.{padded}
use Rattle.comm_versions.proofs.IdPrefixes.{apart_early}
use Rattle.comm_versions.proofs.Positions.{is_less}
use Rattle.comm_versions.proofs.prefixed_comm.PrefixedComm.starts_above.Goals as goal

pub returns : goal.returns
returns c holds =
    let id = c.args.id.now in
    let comm = c.self.inside.comm in
    let below = is_less (id_cmp (to_be_bytes w64 c.args.prefix) (to_be_bytes w64 c.self.inside.prefix)) (sym c.is_prefix_below.ensures ∙ holds) in
    let is : id_cmp (padded 8 id) (padded 8 comm.0) ≡ Less = sym (ap (λ s. id_cmp s (to_be_bytes w64 c.self.inside.prefix)) c.requires ∙ ap (id_cmp (padded 8 id)) c.self.invariant) ∙ below in
    sym (ap (λ (x : Name × Comm). id_cmp id x.0) c.self.view_is) ∙ apart_early 8 id comm.0 Less is (λ same. cc same)
