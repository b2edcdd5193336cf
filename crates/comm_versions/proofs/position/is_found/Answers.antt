use Rattle.std.proofs.Common.{ap, sym, ◌∙◌, arith}
use Rattle.std.proofs.lemmas.Map.Text.{is_eq-slice_cmp}
use Rattle.std.specs.Str.{bytes_eq}
use Rattle.comm_versions.proofs.Positions.{found_position}
use Rattle.comm_versions.proofs.position.is_found.Goals as goal

pub returns-then-i-comms : goal.returns-then-i-comms
returns-then-i-comms c holds =
    let k = c.args.id.now in
    let x = c.index-comms-i.result in
    let same = is_eq-slice_cmp k x.0 ∙ ap (bytes_eq k) (sym (c.id.ensures ∙ ap (λ e. e.0) c.comm.ensures)) ∙ (sym c.eq.ensures ∙ holds) in
    found_position k c.args.chunks.now c.args.chunk c.index-chunks-chunk.result c.deref.result.now c.as_slice-comms.result.now (omega arith) c.index-chunks-chunk.is c.deref.ensures c.as_slice-comms.ensures.value c.requires.ordered
    c.args.i x (omega arith) c.index-comms-i.is same
