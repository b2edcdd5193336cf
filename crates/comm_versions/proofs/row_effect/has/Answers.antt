use Rattle.std.proofs.Common.{◌≡◌, Global, Some, Vec, ap, get_or, sym, subst, ◌∙◌}
use Rattle.std.proofs.lemmas.Slice.Eq.{bytes_eq-Decides}
use Rattle.std.specs.Prelude.{Ok, option_map}
use Rattle.std.specs.Arc.{arc_value}
use Rattle.comm_core.specs.Machine.{Name}
use Rattle.comm_core.specs.declared.comm.Comm.{Comm}
use Rattle.comm_versions.specs.Chunks.{StandsAt}
use Rattle.comm_versions.proofs.Ids.{at_found}
use Rattle.comm_versions.proofs.Around.{at_here}
use Rattle.comm_versions.proofs.Positions.{position_one, position_stands}
use Rattle.comm_versions.proofs.row_effect.has.Goals as goal

pub returns-in-Ok : goal.returns-in-Ok
returns-in-Ok c holds =
    let ps = c.args.chunks.now in
    let k = c.args.id.now in
    let s = c.args.position in
    let h = c.requires.position in
    let i = c.in-Ok.i in
    let xs = (arc_value h.one).items in
    let f : StandsAt k xs (Ok i) = subst (StandsAt k xs) c.in-Ok.is h.there in
    let one = position_one ps k s h c.index-chunks-position.result c.index-chunks-position.is in
    let here : c.index.result.now ≡ get_or xs i c.index.result.now = c.index.ensures ∙ ap (λ (v : Vec (Name × Comm) Global). get_or v.items i c.index.result.now) (c.deref.ensures ∙ ap arc_value one) in
    let there = at_found xs i k c.index.result.now f.0 f.1 f.2 in
    let text = (bytes_eq-Decides c.target.result.now c.args.target.now).0 (sym c.eq.ensures ∙ holds) in
    ap (option_map (λ (d : Comm). d.target)) (sym (at_here ps s.chunk xs k c.requires.ordered (position_stands ps k s h)) ∙ there) ∙ ap Some (ap (λ (x : Name × Comm). x.1.target) (sym here) ∙ (sym (c.target.ensures ∙ ap (λ (x : Name × Comm). x.1.target) c.comm.ensures) ∙ text))
