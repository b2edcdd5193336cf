use Rattle.std.proofs.Common.{◌∙◌, refl, sym, ap}
use Rattle.std.specs.Map.{lookup, remove_entry}
use Rattle.ordered_table.specs.Table.{Places, entries}
use Rattle.ordered_table.proofs.Gaps.{value_of, gap_kept, taken_count, taken_kept, emptied_at}
use Rattle.ordered_table.proofs.table.Table.take_at.Goals as goal

pub invariant_of-self : goal.invariant_of-self
invariant_of-self g c =
    gap_kept g.K.PartialEq.eq (g.K.PartialEq.eq c.args.key.now) (g.met.K.Eq.laws.congr c.args.key.now) c.self.inside.rows.entries c.self.inside.live c.self.invariant _ c.empty_at.ensures.unique c.empty_at.ensures.entries
    (sym c.in_err-value.ensures.taken)

pub returns-in_err-value-clause-taken : goal.returns-in_err-value-clause-taken
returns-in_err-value-clause-taken g c =
    c.from_residual.ensures ∙ c.in_err-value.ensures.taken
    ∙ value_of g.K.PartialEq.eq (g.K.PartialEq.eq c.args.key.now) (g.met.K.Eq.laws.congr c.args.key.now) c.self.inside.rows.entries c.self.inside.live c.self.invariant _ refl
    ∙ ap (λ (t : Places g.row.K.Denot g.row.V.Denot). lookup (g.K.PartialEq.eq c.args.key.now) (entries t)) c.self.view_is

pub returns-in_err-value-clause-entries : goal.returns-in_err-value-clause-entries
returns-in_err-value-clause-entries g c =
    emptied_at g.K.PartialEq.eq (g.K.PartialEq.eq c.args.key.now) (g.met.K.Eq.laws.congr c.args.key.now) c.self.inside.rows.entries c.self.inside.live c.self.invariant _ c.empty_at.ensures.entries
    ∙ ap (λ (t : Places g.row.K.Denot g.row.V.Denot). remove_entry (g.K.PartialEq.eq c.args.key.now) (entries t)) c.self.view_is

pub overflow_sub-self : goal.overflow_sub-self
overflow_sub-self g c =
    (taken_count g.K.PartialEq.eq (g.K.PartialEq.eq c.args.key.now) (g.met.K.Eq.laws.congr c.args.key.now) c.self.inside.rows.entries c.self.inside.live c.self.invariant _ c.empty_at.ensures.unique _ c.empty_at.ensures.entries (sym c.in_ok-value.ensures.taken)).0

pub sweep-requires : goal.sweep-requires
sweep-requires g c =
    record { count = (taken_count g.K.PartialEq.eq (g.K.PartialEq.eq c.args.key.now) (g.met.K.Eq.laws.congr c.args.key.now) c.self.inside.rows.entries c.self.inside.live c.self.invariant _ c.empty_at.ensures.unique _ c.empty_at.ensures.entries (sym c.in_ok-value.ensures.taken)).1 }

pub invariant_of-self-2 : goal.invariant_of-self-2
invariant_of-self-2 g c =
    taken_kept g.K.PartialEq.eq (g.K.PartialEq.eq c.args.key.now) (g.met.K.Eq.laws.congr c.args.key.now) c.self.inside.rows.entries c.self.inside.live c.self.invariant _ c.empty_at.ensures.unique _ _ c.empty_at.ensures.entries
    c.sweep.ensures.entries c.sweep.ensures.few c.sweep.ensures.unique (sym c.in_ok-value.ensures.taken)

pub returns-clause-taken : goal.returns-clause-taken
returns-clause-taken g c =
    c.in_ok-value.ensures.taken ∙ value_of g.K.PartialEq.eq (g.K.PartialEq.eq c.args.key.now) (g.met.K.Eq.laws.congr c.args.key.now) c.self.inside.rows.entries c.self.inside.live c.self.invariant _ refl
    ∙ ap (λ (t : Places g.row.K.Denot g.row.V.Denot). lookup (g.K.PartialEq.eq c.args.key.now) (entries t)) c.self.view_is

pub returns-clause-entries : goal.returns-clause-entries
returns-clause-entries g c =
    c.sweep.ensures.entries
    ∙ emptied_at g.K.PartialEq.eq (g.K.PartialEq.eq c.args.key.now) (g.met.K.Eq.laws.congr c.args.key.now) c.self.inside.rows.entries c.self.inside.live c.self.invariant _ c.empty_at.ensures.entries
    ∙ ap (λ (t : Places g.row.K.Denot g.row.V.Denot). remove_entry (g.K.PartialEq.eq c.args.key.now) (entries t)) c.self.view_is
