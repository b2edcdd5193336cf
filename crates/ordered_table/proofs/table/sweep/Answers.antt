use Rattle.std.proofs.Common.{◌≡◌, ◌∙◌, ap, sym, arith, rules, is_some, length}
use Rattle.indexmap.proofs.CallerLemmas.{filter-RetainsPairs}
use Rattle.ordered_table.specs.Table.{there}
use Rattle.ordered_table.proofs.Gaps.{swept, swept_full}
use Rattle.ordered_table.proofs.table.sweep.Goals as goal

pub returns-then-live-len-clause-few : goal.returns-then-live-len-clause-few
returns-then-live-len-clause-few g c =
    let kept = filter-RetainsPairs _ (λ p. is_some p.1) _ (λ k v b w f call. search rules) _ _ c.retain.ensures.filtered in
    let all : length (there c.retain.new.self.entries) ≡ length c.retain.new.self.entries =
    ap (λ ps. length (there ps)) kept ∙ ap length (swept c.args.rows.now.entries) ∙ swept_full c.args.rows.now.entries ∙ sym (ap length kept) in
    omega (arith, all)

pub returns-then-live-len-clause-entries : goal.returns-then-live-len-clause-entries
returns-then-live-len-clause-entries g c =
    ap there (filter-RetainsPairs _ (λ p. is_some p.1) _ (λ k v b w f call. search rules) _ _ c.retain.ensures.filtered) ∙ swept c.args.rows.now.entries
