use Rattle.std.proofs.Common.{◌≡◌, Global, Some, Vec, ap, get_or, sym, subst, ◌∙◌}
use Rattle.std.specs.Prelude.{Err, Ok}
use Rattle.std.specs.Arc.{arc_value}
use Rattle.comm_core.specs.Machine.{Name, at}
use Rattle.comm_core.specs.Tables.{Opens}
use Rattle.comm_core.specs.declared.comm.Comm.{Comm}
use Rattle.comm_versions.specs.Chunks.{IsPosition, StandsAt}
use Rattle.comm_versions.proofs.Ids.{at_found, at_absent}
use Rattle.comm_versions.proofs.Around.{at_here}
use Rattle.comm_versions.proofs.Positions.{position_one, position_ordered, position_stands}
use Rattle.comm_versions.proofs.comm_table.CommTable.get.Goals as goal

pub returns-in-Ok : goal.returns-in-Ok
returns-in-Ok c =
    let ps = c.self.inside.chunks.items in
    let k = c.args.id.now in
    let s = c.in_ok-position.position in
    let h : IsPosition ps k s = subst (λ qs. IsPosition qs k s) c.as_slice.ensures.value c.in_ok-position.ensures.some in
    let i = c.in-Ok.i in
    let xs = (arc_value h.one).items in
    let f : StandsAt k xs (Ok i) = subst (StandsAt k xs) c.in-Ok.is h.there in
    let one = position_one ps k s h c.index.result.now c.index.ensures in
    let here : c.index-in-Ok.result.now ≡ get_or xs i c.index-in-Ok.result.now = c.index-in-Ok.ensures ∙ ap (λ (v : Vec (Name × Comm) Global). get_or v.items i c.index-in-Ok.result.now) (c.deref.ensures ∙ ap arc_value one) in
    ap (λ (x : Name × Comm). Some x.1) (c.comm.ensures ∙ here) ∙ sym (at_found xs i k c.index-in-Ok.result.now f.0 f.1 f.2)
    ∙ at_here ps s.chunk xs k c.self.invariant.1 (position_stands ps k s h) ∙ ap (λ (es : Opens). at es k) c.self.view_is

pub returns-in-Err : goal.returns-in-Err
returns-in-Err c =
    let ps = c.self.inside.chunks.items in
    let k = c.args.id.now in
    let s = c.in_ok-position.position in
    let h : IsPosition ps k s = subst (λ qs. IsPosition qs k s) c.as_slice.ensures.value c.in_ok-position.ensures.some in
    let i = c.in-Err.field-0 in
    let xs = (arc_value h.one).items in
    let a : StandsAt k xs (Err i) = subst (StandsAt k xs) c.in-Err.is h.there in
    sym (at_absent xs i k (position_ordered ps k s h c.self.invariant.1) a.1 a.2) ∙ at_here ps s.chunk xs k c.self.invariant.1 (position_stands ps k s h) ∙ ap (λ (es : Opens). at es k) c.self.view_is
