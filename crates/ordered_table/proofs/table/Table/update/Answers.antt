use Rattle.std.proofs.Common.{◌≡◌, ◌∙◌, sym, ap, subst, Some, None}
use Rattle.std.specs.Option.{option_flatten}
use Rattle.std.specs.Map.{lookup, set_value}
use Rattle.ordered_table.specs.Table.{Places, entries, there}
use Rattle.ordered_table.proofs.Gaps.{value_of, gap_at, gap_kept, changed_kept}
use Rattle.ordered_table.proofs.table.Table.update.Goals as goal
use Rattle.ordered_table.proofs.table.Table.update.Goals.{in-Some+in-Some-take+in-Some-1, in-Some+in-Some-take+in-None-1, in-Some+in_default-take, in_default}

pub invariant_of-self : goal.invariant_of-self
invariant_of-self g c =
    elim c.match-get_mut.branch [
      | in-Some+in-Some-take+in-Some-1 w ↦
          let put = c.get_mut.follows.holds (Some w.change.result) in
          rw w.self-inside-is
          (changed_kept g.K.PartialEq.eq (g.K.PartialEq.eq c.args.key.now) (g.met.K.Eq.laws.congr c.args.key.now) c.self.inside.rows.entries c.self.inside.live c.self.invariant _ put.4 w.in-Some-take.value w.change.result put.0
          (sym w.in-Some.ensures.value ∙ ap Some (sym w.take.ensures.value ∙ w.in-Some-take.is))).0
      | in-Some+in-Some-take+in-None-1 w ↦
          let put = c.get_mut.follows.holds (Some w.change.result) in
          rw w.self-inside-is
          (changed_kept g.K.PartialEq.eq (g.K.PartialEq.eq c.args.key.now) (g.met.K.Eq.laws.congr c.args.key.now) c.self.inside.rows.entries c.self.inside.live c.self.invariant _ put.4 w.in-Some-take.value w.change.result put.0
          (sym w.in-Some.ensures.value ∙ ap Some (sym w.take.ensures.value ∙ w.in-Some-take.is))).0
      | in-Some+in_default-take w ↦
          let put = c.get_mut.follows.holds w.take.new.self in
          rw w.self-inside-is
          (gap_kept g.K.PartialEq.eq (g.K.PartialEq.eq c.args.key.now) (g.met.K.Eq.laws.congr c.args.key.now) c.self.inside.rows.entries c.self.inside.live c.self.invariant _ put.4
          (put.0 ∙ ap (set_value (g.K.PartialEq.eq c.args.key.now) c.self.inside.rows.entries) w.take.ensures.after)
          (ap option_flatten (sym w.in-Some.ensures.value ∙ ap Some (sym w.take.ensures.value ∙ w.in_default-take.is))))
      | in_default w ↦ rw (w.self-inside-is, c.get_mut.follows.holds-at-none) c.self.invariant
    ]

pub returns-clause-entries : goal.returns-clause-entries
returns-clause-entries g c = λ v is.
    let there_is : lookup (g.K.PartialEq.eq c.args.key.now) (there c.self.inside.rows.entries) ≡ Some v =
    ap (λ (t : Places g.row.K.Denot g.row.V.Denot). lookup (g.K.PartialEq.eq c.args.key.now) (entries t)) c.self.view_is ∙ is in
    elim c.match-get_mut.branch [
      | in-Some+in-Some-take+in-Some-1 w ↦
          let put = c.get_mut.follows.holds (Some w.change.result) in
          let found = sym w.in-Some.ensures.value ∙ ap Some (sym w.take.ensures.value ∙ w.in-Some-take.is) in
          let both : Some w.in-Some-take.value ≡ Some v =
          value_of g.K.PartialEq.eq (g.K.PartialEq.eq c.args.key.now) (g.met.K.Eq.laws.congr c.args.key.now) c.self.inside.rows.entries c.self.inside.live c.self.invariant _ (sym found) ∙ there_is in
          let same : w.in-Some-take.value ≡ v = cc in (
            w.change.result,
            subst (λ x. g.F.FnOnce.post c.args.change (x, tt) w.change.result) same w.change.ensures,
            ap (λ i. there i.rows.entries) w.self-inside-is
                ∙ (changed_kept g.K.PartialEq.eq (g.K.PartialEq.eq c.args.key.now) (g.met.K.Eq.laws.congr c.args.key.now) c.self.inside.rows.entries c.self.inside.live c.self.invariant _ put.4 w.in-Some-take.value w.change.result put.0 found).1
                ∙ ap (λ (t : Places g.row.K.Denot g.row.V.Denot). set_value (g.K.PartialEq.eq c.args.key.now) (entries t) w.change.result) c.self.view_is,
          )
      | in-Some+in-Some-take+in-None-1 w ↦
          let put = c.get_mut.follows.holds (Some w.change.result) in
          let found = sym w.in-Some.ensures.value ∙ ap Some (sym w.take.ensures.value ∙ w.in-Some-take.is) in
          let both : Some w.in-Some-take.value ≡ Some v =
          value_of g.K.PartialEq.eq (g.K.PartialEq.eq c.args.key.now) (g.met.K.Eq.laws.congr c.args.key.now) c.self.inside.rows.entries c.self.inside.live c.self.invariant _ (sym found) ∙ there_is in
          let same : w.in-Some-take.value ≡ v = cc in (
            w.change.result,
            subst (λ x. g.F.FnOnce.post c.args.change (x, tt) w.change.result) same w.change.ensures,
            ap (λ i. there i.rows.entries) w.self-inside-is
                ∙ (changed_kept g.K.PartialEq.eq (g.K.PartialEq.eq c.args.key.now) (g.met.K.Eq.laws.congr c.args.key.now) c.self.inside.rows.entries c.self.inside.live c.self.invariant _ put.4 w.in-Some-take.value w.change.result put.0 found).1
                ∙ ap (λ (t : Places g.row.K.Denot g.row.V.Denot). set_value (g.K.PartialEq.eq c.args.key.now) (entries t) w.change.result) c.self.view_is,
          )
      | in-Some+in_default-take w ↦
          let found = sym w.in-Some.ensures.value ∙ ap Some (sym w.take.ensures.value ∙ w.in_default-take.is) in
          let both : None ≡ Some v =
          value_of g.K.PartialEq.eq (g.K.PartialEq.eq c.args.key.now) (g.met.K.Eq.laws.congr c.args.key.now) c.self.inside.rows.entries c.self.inside.live c.self.invariant _ (sym found) ∙ there_is in
          cc
      | in_default w ↦
          let both : None ≡ Some v =
          value_of g.K.PartialEq.eq (g.K.PartialEq.eq c.args.key.now) (g.met.K.Eq.laws.congr c.args.key.now) c.self.inside.rows.entries c.self.inside.live c.self.invariant None w.in_default.ensures.value ∙ there_is in
          cc
    ]

pub returns-clause-absent : goal.returns-clause-absent
returns-clause-absent g c = λ none.
    let gone : lookup (g.K.PartialEq.eq c.args.key.now) (there c.self.inside.rows.entries) ≡ None =
    ap (λ (t : Places g.row.K.Denot g.row.V.Denot). lookup (g.K.PartialEq.eq c.args.key.now) (entries t)) c.self.view_is ∙ none in
    let before = ap (λ (t : Places g.row.K.Denot g.row.V.Denot). entries t) c.self.view_is in
    elim c.match-get_mut.branch [
      | in-Some+in-Some-take+in-Some-1 w ↦
          let both : Some w.in-Some-take.value ≡ None =
          value_of g.K.PartialEq.eq (g.K.PartialEq.eq c.args.key.now) (g.met.K.Eq.laws.congr c.args.key.now) c.self.inside.rows.entries c.self.inside.live c.self.invariant _ (ap Some (sym w.in-Some-take.is ∙ w.take.ensures.value) ∙ w.in-Some.ensures.value) ∙ gone in
          cc
      | in-Some+in-Some-take+in-None-1 w ↦
          let both : Some w.in-Some-take.value ≡ None =
          value_of g.K.PartialEq.eq (g.K.PartialEq.eq c.args.key.now) (g.met.K.Eq.laws.congr c.args.key.now) c.self.inside.rows.entries c.self.inside.live c.self.invariant _ (ap Some (sym w.in-Some-take.is ∙ w.take.ensures.value) ∙ w.in-Some.ensures.value) ∙ gone in
          cc
      | in-Some+in_default-take w ↦
          let put = c.get_mut.follows.holds w.take.new.self in
          ap (λ i. there i.rows.entries) w.self-inside-is
          ∙ gap_at g.K.PartialEq.eq (g.K.PartialEq.eq c.args.key.now) (g.met.K.Eq.laws.congr c.args.key.now) c.self.inside.rows.entries c.self.inside.live c.self.invariant _ (put.0 ∙ ap (set_value (g.K.PartialEq.eq c.args.key.now) c.self.inside.rows.entries) w.take.ensures.after)
          (ap option_flatten (sym w.in-Some.ensures.value ∙ ap Some (sym w.take.ensures.value ∙ w.in_default-take.is))) ∙ before
      | in_default w ↦ ap (λ i. there i.rows.entries) w.self-inside-is ∙ ap (λ m. there m.entries) c.get_mut.follows.holds-at-none ∙ before
    ]
