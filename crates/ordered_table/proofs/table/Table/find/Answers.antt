use Rattle.std.proofs.Common.{◌∙◌, sym, ap, Some, None, slice_get}
use Rattle.std.specs.Map.{lookup}
use Rattle.ordered_table.specs.Table.{Places, entries}
use Rattle.ordered_table.proofs.Gaps.{value_of}
use Rattle.ordered_table.proofs.table.Table.find.Goals as goal

pub returns-in-Some-default-default-Some-clause-value : goal.returns-in-Some-default-default-Some-clause-value
returns-in-Some-default-default-Some-clause-value g c =
    value_of g.K.PartialEq.eq (g.K.PartialEq.eq c.args.key.now) (g.met.K.Eq.laws.congr c.args.key.now) c.self.inside.rows.entries c.self.inside.live c.self.invariant (Some (Some c.in-Some-default-default-Some.value))
    (ap Some (sym c.in-Some-default-default-Some.field-0-2-is) ∙ c.in-Some-default-default-Some.ensures.value)
    ∙ ap (λ (t : Places g.row.K.Denot g.row.V.Denot). lookup (g.K.PartialEq.eq c.args.key.now) (entries t)) c.self.view_is

pub returns-in-Some-default-default-Some-clause-place : goal.returns-in-Some-default-default-Some-clause-place
returns-in-Some-default-default-Some-clause-place g c = (
  c.in-Some-default-default-Some.field-0-1.now,
  ap (λ (t : Places g.row.K.Denot g.row.V.Denot). slice_get t.places c.in-Some-default-default-Some.place) (sym c.self.view_is) ∙ c.in-Some-default-default-Some.ensures.entry
      ∙ ap (λ o. Some (c.in-Some-default-default-Some.field-0-1.now, o)) c.in-Some-default-default-Some.field-0-2-is,
)

pub returns-in-Some-default-default-None-clause-value : goal.returns-in-Some-default-default-None-clause-value
returns-in-Some-default-default-None-clause-value g c =
    value_of g.K.PartialEq.eq (g.K.PartialEq.eq c.args.key.now) (g.met.K.Eq.laws.congr c.args.key.now) c.self.inside.rows.entries c.self.inside.live c.self.invariant (Some None)
    (ap Some (sym c.in-Some-default-default-None.field-0-2-is) ∙ c.in-Some-default-default-None.ensures.value)
    ∙ ap (λ (t : Places g.row.K.Denot g.row.V.Denot). lookup (g.K.PartialEq.eq c.args.key.now) (entries t)) c.self.view_is

pub returns-in-None-clause-value : goal.returns-in-None-clause-value
returns-in-None-clause-value g c =
    value_of g.K.PartialEq.eq (g.K.PartialEq.eq c.args.key.now) (g.met.K.Eq.laws.congr c.args.key.now) c.self.inside.rows.entries c.self.inside.live c.self.invariant None c.in-None.ensures.value
    ∙ ap (λ (t : Places g.row.K.Denot g.row.V.Denot). lookup (g.K.PartialEq.eq c.args.key.now) (entries t)) c.self.view_is
