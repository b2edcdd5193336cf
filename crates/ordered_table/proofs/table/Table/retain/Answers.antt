use Rattle.std.proofs.Common.{◌∙◌, sym, ap, rules, arith, filter}
use Rattle.indexmap.proofs.CallerLemmas.{filter-RetainsPairs}
use Rattle.ordered_table.specs.Table.{Places, entries, there, at_place}
use Rattle.ordered_table.proofs.Gaps.{full, chosen}
use Rattle.ordered_table.proofs.table.Table.retain.Goals as goal

pub invariant_of-self : goal.invariant_of-self
invariant_of-self g c =
    let all = full _ (λ f k o b p h call. search rules) _ _ _ c.retain.ensures.filtered in
    record { count = c.len-self-inside.ensures.len ∙ sym all; few = omega (arith, all); unique = c.retain.ensures.unique }

pub returns : goal.returns
returns g c = λ test computes.
    ap there (filter-RetainsPairs _ (at_place test) _ (λ k v b w f call. search (rules, computes)) _ _ c.retain.ensures.filtered)
    ∙ chosen test c.self.inside.rows.entries ∙ ap (λ (t : Places g.row.K.Denot g.row.V.Denot). filter test (entries t)) c.self.view_is
