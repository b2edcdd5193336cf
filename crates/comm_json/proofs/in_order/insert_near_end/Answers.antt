use Rattle.std.proofs.Common.{◌-◌, ◌∙◌, sym, arith, refl}
use Rattle.comm_json.proofs.MemberOrder.{let_in_above, let_in_first, let_in_place}
use Rattle.comm_json.proofs.in_order.insert_near_end.Goals as goal

pub returns-in-Greater : goal.returns-in-Greater
returns-in-Greater c done =
    let i = c.loop-place.invariant in
    let_in_above c.args.all.now.items c.loop-place.all.items _ (c.loop-place.place - 1) c.loop-place.place c.args.key c.args.value c.index.result.now i.0 c.requires (omega arith) i.1 c.index.ensures (sym c.cmp.ensures ∙ c.in-Greater.is) i.2 c.in_ok-insert-in-Greater.ensures.items

pub returns-in-Equal : goal.returns-in-Equal
returns-in-Equal c done =
    let i = c.loop-place.invariant in
    let_in_place c.args.all.now.items c.loop-place.all.items _ (c.loop-place.place - 1) c.args.key c.args.value c.index.result.now c.index_mut.result.now i.0 c.requires (omega (arith, i.1)) c.index.ensures (sym c.cmp.ensures ∙ c.in-Equal.is) c.index_mut.ensures.value refl

pub returns : goal.returns
returns c done =
    let i = c.loop-place.invariant in
    let_in_first c.args.all.now.items c.loop-place.all.items _ c.loop-place.place c.args.key c.args.value i.0 (omega arith) i.2 c.in_ok-insert.ensures.items
