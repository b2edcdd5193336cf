use Rattle.std.proofs.Common.{ap, ◌∙◌}
use Rattle.std.specs.Arc.{arc_value}
use Rattle.comm_versions.specs.Chunks.{comms_in, upsert}
use Rattle.comm_versions.proofs.Around.{put_set}
use Rattle.comm_versions.proofs.Positions.{position_one, position_stands}
use Rattle.comm_versions.proofs.changing.put_cut.Goals as goal

pub returns-clause-upsert : goal.returns-clause-upsert
returns-clause-upsert c =
    let ps = c.args.chunks.now.items in
    let k = c.args.comm in
    let s = c.args.position.now in
    let h = c.requires.position in
    let i = s.chunk in
    let here = c.as_slice-comms.ensures.value ∙ ap (λ v. v.items) (c.deref.ensures ∙ ap arc_value (position_one ps k.0 s h c.index.result.now c.index.ensures)) in
    put_set ps i (arc_value h.one).items c.in_ok-changed.changed.items (comms_in c.set_chunk.new.chunks.items) k (position_stands ps k.0 s h) (c.in_ok-changed.ensures.upsert ∙ ap (λ es. upsert es k) here) c.in_ok-set_chunk.ensures.comms_in
