use Rattle.std.proofs.Common.{◌≡◌, Some, ap, sym, ◌∙◌}
use Rattle.std.specs.Prelude.{option_map}
use Rattle.comm_core.specs.Machine.{Name, at}
use Rattle.comm_core.specs.declared.comm.Comm.{Comm}
use Rattle.comm_versions.specs.Chunks.{comms_in}
use Rattle.comm_versions.proofs.Relisting.{put_alike, was_true}
use Rattle.comm_versions.proofs.row_effect.put_effect.Goals as goal

pub returns-in-Some : goal.returns-in-Some
returns-in-Some c stays =
    let es = comms_in c.args.chunks.now in
    let k = c.args.comm.now in
    let same : option_map (λ (d : Comm). d.target) (at es k.0) ≡ Some k.1.target =
    ap (λ (n : Name). option_map (λ (d : Comm). d.target) (at es n)) (sym c.id-in-Some.ensures) ∙ (c.has.ensures (was_true c.has.result stays) ∙ ap Some c.target.ensures) in
    put_alike es k c.requires.ordered same
