use Rattle.std.proofs.Common.{◌∙◌, sym, ap, Some, None}
use Rattle.std.specs.Map.{lookup}
use Rattle.ordered_table.specs.Table.{Places, entries}
use Rattle.ordered_table.proofs.Gaps.{value_of}
use Rattle.ordered_table.proofs.table.Table.get.Goals as goal

pub returns-in-Some-Some : goal.returns-in-Some-Some
returns-in-Some-Some g c =
    value_of g.K.PartialEq.eq (g.K.PartialEq.eq c.args.key.now) (g.met.K.Eq.laws.congr c.args.key.now) c.self.inside.rows.entries c.self.inside.live c.self.invariant (Some (Some c.in-Some-Some.value))
    (ap Some (sym c.in-Some-Some.field-0-is) ∙ c.in-Some-Some.ensures.value)
    ∙ ap (λ (t : Places g.row.K.Denot g.row.V.Denot). lookup (g.K.PartialEq.eq c.args.key.now) (entries t)) c.self.view_is

pub returns-in-Some-None : goal.returns-in-Some-None
returns-in-Some-None g c =
    value_of g.K.PartialEq.eq (g.K.PartialEq.eq c.args.key.now) (g.met.K.Eq.laws.congr c.args.key.now) c.self.inside.rows.entries c.self.inside.live c.self.invariant (Some None)
    (ap Some (sym c.in-Some-None.field-0-is) ∙ c.in-Some-None.ensures.value)
    ∙ ap (λ (t : Places g.row.K.Denot g.row.V.Denot). lookup (g.K.PartialEq.eq c.args.key.now) (entries t)) c.self.view_is

pub returns-in-None : goal.returns-in-None
returns-in-None g c =
    value_of g.K.PartialEq.eq (g.K.PartialEq.eq c.args.key.now) (g.met.K.Eq.laws.congr c.args.key.now) c.self.inside.rows.entries c.self.inside.live c.self.invariant None c.in-None.ensures.value
    ∙ ap (λ (t : Places g.row.K.Denot g.row.V.Denot). lookup (g.K.PartialEq.eq c.args.key.now) (entries t)) c.self.view_is
