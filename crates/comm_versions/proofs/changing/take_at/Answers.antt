use Rattle.std.proofs.Common.{◌+◌, ◌++◌, [], length, take, drop, set, ap, refl, ◌∙◌, arith}
use Rattle.std.specs.Arc.{arc_value}
use Rattle.comm_versions.specs.Chunks.{CommChunk}
use Rattle.comm_versions.proofs.Flat.{filled_rest, filled_set, none_set, set_flat}
use Rattle.comm_versions.proofs.Positions.{more_left, more_than_one, one_left, out_position, position_one, position_within}
use Rattle.comm_versions.proofs.changing.take_at.Goals as goal

pub returns-then-len-eq1-clause-out : goal.returns-then-len-eq1-clause-out
returns-then-len-eq1-clause-out c =
    let ps = c.args.chunks.now.items in
    let n = c.args.place in
    let h = c.requires.position in
    let one = position_one ps c.args.id.now _ h c.index.result.now c.index.ensures in
    out_position ps c.remove.new.self.items c.args.id.now n c.args.i h [] c.requires.ordered (one_left (arc_value h.one).items c.args.i (omega (arith, c.if-len-eq1.true, c.len.ensures, ap (λ v. length v.items) (c.deref.ensures ∙ ap arc_value one))) h.there.0)
    (none_set ps c.remove.new.self.items n [] (position_within ps c.args.id.now _ h) c.remove.ensures.items refl)

pub returns-then-len-eq1-clause-filled : goal.returns-then-len-eq1-clause-filled
returns-then-len-eq1-clause-filled c = filled_rest c.args.chunks.now.items _ c.args.place c.remove.ensures.items c.requires.filled

pub returns-clause-out : goal.returns-clause-out
returns-clause-out c =
    let ps = c.args.chunks.now.items in
    let n = c.args.place in
    let i = c.args.i in
    let h = c.requires.position in
    let q = c.take_from.new.chunk in
    let one = position_one ps c.args.id.now _ h c.index_mut.result.now c.index_mut.ensures.value in
    out_position ps (set ps n q) c.args.id.now n i h (arc_value q).items c.requires.ordered (c.in_ok-take_from.ensures ∙ ap (λ (p : CommChunk). take i (arc_value p).items ++ drop (i + 1) (arc_value p).items) one) (set_flat ps n q (position_within ps c.args.id.now _ h))

pub returns-clause-filled : goal.returns-clause-filled
returns-clause-filled c =
    let ps = c.args.chunks.now.items in
    let i = c.args.i in
    let h = c.requires.position in
    let q = c.take_from.new.chunk in
    let one = position_one ps c.args.id.now _ h c.index_mut.result.now c.index_mut.ensures.value in
    let first = position_one ps c.args.id.now _ h c.index.result.now c.index.ensures in
    let count = ap (λ v. length v.items) (c.deref.ensures ∙ ap arc_value first) in
    filled_set ps c.args.place q
    (more_left (arc_value h.one).items (arc_value q).items i (omega (arith, more_than_one c.len.result c.if-len-eq1.false (omega (arith, c.len.ensures, count, h.there.0)), c.len.ensures, count)) h.there.0 (c.in_ok-take_from.ensures ∙ ap (λ (p : CommChunk). take i (arc_value p).items ++ drop (i + 1) (arc_value p).items) one)) c.requires.filled
