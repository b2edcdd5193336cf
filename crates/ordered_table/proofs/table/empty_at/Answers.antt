use Rattle.std.proofs.Common.{◌∙◌, sym, ap, subst, None}
use Rattle.std.specs.Option.{option_flatten}
use Rattle.indexmap.specs.IndexMap.{IsUnique, set_value_at, with_value_at}
use Rattle.ordered_table.proofs.Gaps.{found_at, set_none}
use Rattle.ordered_table.proofs.table.empty_at.Goals as goal

pub returns-in-Some-clause-taken : goal.returns-in-Some-clause-taken
returns-in-Some-clause-taken g c =
    let s = c.stands_at.ensures c.if-stands_at.true in
    let put = found_at g.K.PartialEq.eq (g.K.PartialEq.eq c.args.key.now) (g.met.K.Eq.laws.congr c.args.key.now) c.args.rows.now.entries c.args.place s.0 s.1 None c.get_index_mut.ensures.unique s.2 s.3 in
    c.take.ensures.value ∙ ap option_flatten (c.in-Some.ensures.value ∙ sym put.1)

pub returns-in-Some-clause-entries : goal.returns-in-Some-clause-entries
returns-in-Some-clause-entries g c =
    let s = c.stands_at.ensures c.if-stands_at.true in
    let put = found_at g.K.PartialEq.eq (g.K.PartialEq.eq c.args.key.now) (g.met.K.Eq.laws.congr c.args.key.now) c.args.rows.now.entries c.args.place s.0 s.1 None c.get_index_mut.ensures.unique s.2 s.3 in
    ap (set_value_at c.args.rows.now.entries c.args.place) c.take.ensures.after ∙ put.0

pub returns-in-Some-clause-unique : goal.returns-in-Some-clause-unique
returns-in-Some-clause-unique g c =
    let s = c.stands_at.ensures c.if-stands_at.true in
    let put = found_at g.K.PartialEq.eq (g.K.PartialEq.eq c.args.key.now) (g.met.K.Eq.laws.congr c.args.key.now) c.args.rows.now.entries c.args.place s.0 s.1 None c.get_index_mut.ensures.unique s.2 s.3 in
    subst (λ o. IsUnique g.K.PartialEq.eq (with_value_at c.args.rows.now c.args.place o)) (sym c.take.ensures.after) put.2

pub returns-in-None-clause-taken : goal.returns-in-None-clause-taken
returns-in-None-clause-taken g c =
    let s = c.stands_at.ensures c.if-stands_at.true in
    let put = found_at g.K.PartialEq.eq (g.K.PartialEq.eq c.args.key.now) (g.met.K.Eq.laws.congr c.args.key.now) c.args.rows.now.entries c.args.place s.0 s.1 None c.get_index_mut.ensures.unique s.2 s.3 in
    ap option_flatten (c.in-None.ensures.value ∙ sym put.1)

pub returns-in-None-clause-entries : goal.returns-in-None-clause-entries
returns-in-None-clause-entries g c =
    let s = c.stands_at.ensures c.if-stands_at.true in
    let put = found_at g.K.PartialEq.eq (g.K.PartialEq.eq c.args.key.now) (g.met.K.Eq.laws.congr c.args.key.now) c.args.rows.now.entries c.args.place s.0 s.1 None c.get_index_mut.ensures.unique s.2 s.3 in
    sym (set_none (g.K.PartialEq.eq c.args.key.now) c.args.rows.now.entries None (put.1 ∙ sym c.in-None.ensures.value))
