use Rattle.std.proofs.Common.{sym, subst}
use Rattle.std.specs.Prelude.{Err, Ok}
use Rattle.std.specs.Arc.{arc_value}
use Rattle.comm_versions.specs.Chunks.{IsPosition, StandsAt, comms_in}
use Rattle.comm_versions.proofs.Ids.{without_absent}
use Rattle.comm_versions.proofs.Around.{out_set}
use Rattle.comm_versions.proofs.Positions.{position_ordered, position_stands}
use Rattle.comm_versions.proofs.changing.take_searched.Goals as goal

pub take_found-requires-clause-position : goal.take_found-requires-clause-position
take_found-requires-clause-position c =
    let k = c.args.id.now in
    let s = c.in-Some.position in
    subst (λ ps. IsPosition ps k (record { chunk = s.chunk; at = Ok c.in-Ok.i })) c.as_slice.ensures.value (subst (λ a. IsPosition c.as_slice.result.now k (record { chunk = s.chunk; at = a })) c.in-Ok.is c.in-Some.ensures.some)

pub returns-in-Err-clause-out : goal.returns-in-Err-clause-out
returns-in-Err-clause-out c =
    let ps = c.args.chunks.now.items in
    let k = c.args.id.now in
    let s = c.in-Some.position in
    let h : IsPosition ps k s = subst (λ qs. IsPosition qs k s) c.as_slice.ensures.value c.in-Some.ensures.some in
    let xs = (arc_value h.one).items in
    let a : StandsAt k xs (Err c.in-Err.field-0) = subst (StandsAt k xs) c.in-Err.is h.there in
    out_set ps s.chunk xs xs (comms_in ps) k c.requires.ordered (position_stands ps k s h) (sym (without_absent xs c.in-Err.field-0 k (position_ordered ps k s h c.requires.ordered) a.1 a.2)) (position_stands ps k s h).around_it
