use Rattle.std.proofs.Common.{◌≡◌, ◌∙◌, sym, ap, subst, Some, None}
use Rattle.std.specs.Option.{option_flatten}
use Rattle.std.specs.Map.{lookup, set_value}
use Rattle.ordered_table.specs.Table.{Places, entries, there}
use Rattle.ordered_table.proofs.Gaps.{found_at, value_of, gap_at, gap_kept, changed_kept}
use Rattle.ordered_table.proofs.table.Table.update_at.Goals as goal
use Rattle.ordered_table.proofs.table.Table.update_at.Goals.{in-Some-1, in-None-1}

pub invariant_of-self-in-Some-take-2 : goal.invariant_of-self-in-Some-take-2
invariant_of-self-in-Some-take-2 g c =
    let s = c.stands_at.ensures c.if-stands_at.true in
    let put = found_at g.K.PartialEq.eq (g.K.PartialEq.eq c.args.key.now) (g.met.K.Eq.laws.congr c.args.key.now) c.self.inside.rows.entries c.args.place s.0 s.1 (Some c.change.result) c.self.invariant.unique s.2 s.3 in
    (changed_kept g.K.PartialEq.eq (g.K.PartialEq.eq c.args.key.now) (g.met.K.Eq.laws.congr c.args.key.now) c.self.inside.rows.entries c.self.inside.live c.self.invariant _ put.2 c.in-Some-take.value c.change.result put.0
    (put.1 ∙ sym c.in-Some.ensures.value ∙ ap Some (sym c.take.ensures.value ∙ c.in-Some-take.is))).0

pub invariant_of-self-in-None-take : goal.invariant_of-self-in-None-take
invariant_of-self-in-None-take g c =
    let s = c.stands_at.ensures c.if-stands_at.true in
    let put = found_at g.K.PartialEq.eq (g.K.PartialEq.eq c.args.key.now) (g.met.K.Eq.laws.congr c.args.key.now) c.self.inside.rows.entries c.args.place s.0 s.1 c.take.new.self c.self.invariant.unique s.2 s.3 in
    gap_kept g.K.PartialEq.eq (g.K.PartialEq.eq c.args.key.now) (g.met.K.Eq.laws.congr c.args.key.now) c.self.inside.rows.entries c.self.inside.live c.self.invariant _ put.2
    (put.0 ∙ ap (set_value (g.K.PartialEq.eq c.args.key.now) c.self.inside.rows.entries) c.take.ensures.after)
    (ap option_flatten (put.1 ∙ sym c.in-Some.ensures.value ∙ ap Some (sym c.take.ensures.value ∙ c.in_default-take.is)))

pub returns-in-Some-take-clause-entries : goal.returns-in-Some-take-clause-entries
returns-in-Some-take-clause-entries g c = λ v is.
    let s = c.stands_at.ensures c.if-stands_at.true in
    let put = found_at g.K.PartialEq.eq (g.K.PartialEq.eq c.args.key.now) (g.met.K.Eq.laws.congr c.args.key.now) c.self.inside.rows.entries c.args.place s.0 s.1 (Some c.change.result) c.self.invariant.unique s.2 s.3 in
    let found = put.1 ∙ sym c.in-Some.ensures.value ∙ ap Some (sym c.take.ensures.value ∙ c.in-Some-take.is) in
    let there_is : lookup (g.K.PartialEq.eq c.args.key.now) (there c.self.inside.rows.entries) ≡ Some v =
    ap (λ (t : Places g.row.K.Denot g.row.V.Denot). lookup (g.K.PartialEq.eq c.args.key.now) (entries t)) c.self.view_is ∙ is in
    let both : Some c.in-Some-take.value ≡ Some v = value_of g.K.PartialEq.eq (g.K.PartialEq.eq c.args.key.now) (g.met.K.Eq.laws.congr c.args.key.now) c.self.inside.rows.entries c.self.inside.live c.self.invariant _ (sym found) ∙ there_is in
    let same : c.in-Some-take.value ≡ v = cc in
    let after = (changed_kept g.K.PartialEq.eq (g.K.PartialEq.eq c.args.key.now) (g.met.K.Eq.laws.congr c.args.key.now) c.self.inside.rows.entries c.self.inside.live c.self.invariant _ put.2 c.in-Some-take.value c.change.result put.0 found).1
    ∙ ap (λ (t : Places g.row.K.Denot g.row.V.Denot). set_value (g.K.PartialEq.eq c.args.key.now) (entries t) c.change.result) c.self.view_is in (
      c.change.result,
      subst (λ x. g.F.FnOnce.post c.args.change (x, tt) c.change.result) same c.change.ensures,
      elim c.match-slot.branch [
        | in-Some-1 w ↦ ap (λ (t : Places g.row.K.Denot g.row.V.Denot). entries t) w.self-is ∙ after
        | in-None-1 w ↦ ap (λ (t : Places g.row.K.Denot g.row.V.Denot). entries t) w.self-is ∙ after
      ],
    )

pub returns-in-Some-take-clause-absent : goal.returns-in-Some-take-clause-absent
returns-in-Some-take-clause-absent g c = λ none.
    let s = c.stands_at.ensures c.if-stands_at.true in
    let put = found_at g.K.PartialEq.eq (g.K.PartialEq.eq c.args.key.now) (g.met.K.Eq.laws.congr c.args.key.now) c.self.inside.rows.entries c.args.place s.0 s.1 (Some c.change.result) c.self.invariant.unique s.2 s.3 in
    let found = put.1 ∙ sym c.in-Some.ensures.value ∙ ap Some (sym c.take.ensures.value ∙ c.in-Some-take.is) in
    let gone : lookup (g.K.PartialEq.eq c.args.key.now) (there c.self.inside.rows.entries) ≡ None =
    ap (λ (t : Places g.row.K.Denot g.row.V.Denot). lookup (g.K.PartialEq.eq c.args.key.now) (entries t)) c.self.view_is ∙ none in
    let both : Some c.in-Some-take.value ≡ None = value_of g.K.PartialEq.eq (g.K.PartialEq.eq c.args.key.now) (g.met.K.Eq.laws.congr c.args.key.now) c.self.inside.rows.entries c.self.inside.live c.self.invariant _ (sym found) ∙ gone in
    cc

pub returns-in_default-take-clause-entries : goal.returns-in_default-take-clause-entries
returns-in_default-take-clause-entries g c = λ v is.
    let s = c.stands_at.ensures c.if-stands_at.true in
    let put = found_at g.K.PartialEq.eq (g.K.PartialEq.eq c.args.key.now) (g.met.K.Eq.laws.congr c.args.key.now) c.self.inside.rows.entries c.args.place s.0 s.1 c.take.new.self c.self.invariant.unique s.2 s.3 in
    let there_is : lookup (g.K.PartialEq.eq c.args.key.now) (there c.self.inside.rows.entries) ≡ Some v =
    ap (λ (t : Places g.row.K.Denot g.row.V.Denot). lookup (g.K.PartialEq.eq c.args.key.now) (entries t)) c.self.view_is ∙ is in
    let found = put.1 ∙ sym c.in-Some.ensures.value ∙ ap Some (sym c.take.ensures.value ∙ c.in_default-take.is) in
    let both : None ≡ Some v = value_of g.K.PartialEq.eq (g.K.PartialEq.eq c.args.key.now) (g.met.K.Eq.laws.congr c.args.key.now) c.self.inside.rows.entries c.self.inside.live c.self.invariant _ (sym found) ∙ there_is in
    cc

pub returns-in_default-take-clause-absent : goal.returns-in_default-take-clause-absent
returns-in_default-take-clause-absent g c = λ none.
    let s = c.stands_at.ensures c.if-stands_at.true in
    let put = found_at g.K.PartialEq.eq (g.K.PartialEq.eq c.args.key.now) (g.met.K.Eq.laws.congr c.args.key.now) c.self.inside.rows.entries c.args.place s.0 s.1 c.take.new.self c.self.invariant.unique s.2 s.3 in
    gap_at g.K.PartialEq.eq (g.K.PartialEq.eq c.args.key.now) (g.met.K.Eq.laws.congr c.args.key.now) c.self.inside.rows.entries c.self.inside.live c.self.invariant _ (put.0 ∙ ap (set_value (g.K.PartialEq.eq c.args.key.now) c.self.inside.rows.entries) c.take.ensures.after)
    (ap option_flatten (put.1 ∙ sym c.in-Some.ensures.value ∙ ap Some (sym c.take.ensures.value ∙ c.in_default-take.is)))
    ∙ ap (λ (t : Places g.row.K.Denot g.row.V.Denot). entries t) c.self.view_is

pub returns-in_default-clause-entries : goal.returns-in_default-clause-entries
returns-in_default-clause-entries g c = λ v is.
    let s = c.stands_at.ensures c.if-stands_at.true in
    let put = found_at g.K.PartialEq.eq (g.K.PartialEq.eq c.args.key.now) (g.met.K.Eq.laws.congr c.args.key.now) c.self.inside.rows.entries c.args.place s.0 s.1 None c.self.invariant.unique s.2 s.3 in
    let there_is : lookup (g.K.PartialEq.eq c.args.key.now) (there c.self.inside.rows.entries) ≡ Some v =
    ap (λ (t : Places g.row.K.Denot g.row.V.Denot). lookup (g.K.PartialEq.eq c.args.key.now) (entries t)) c.self.view_is ∙ is in
    let both : None ≡ Some v = value_of g.K.PartialEq.eq (g.K.PartialEq.eq c.args.key.now) (g.met.K.Eq.laws.congr c.args.key.now) c.self.inside.rows.entries c.self.inside.live c.self.invariant None (c.in_default.ensures.value ∙ sym put.1) ∙ there_is in
    cc
