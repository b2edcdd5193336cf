use Rattle.std.proofs.Common.{◌∙◌, sym, ap, Some, slice_get}
use Rattle.ordered_table.specs.Table.{Places}
use Rattle.ordered_table.proofs.table.Table.at.Goals as goal

pub returns-in-Some-default-None-clause-gap : goal.returns-in-Some-default-None-clause-gap
returns-in-Some-default-None-clause-gap g c = λ _. (
  c.in-Some-default-None.field-0-0.now,
  ap (λ (t : Places g.row.K.Denot g.row.V.Denot). slice_get t.places c.args.place) (sym c.self.view_is) ∙ sym c.in-Some-default-None.ensures.entry
      ∙ ap (λ o. Some (c.in-Some-default-None.field-0-0.now, o)) c.in-Some-default-None.field-0-1-is,
)
