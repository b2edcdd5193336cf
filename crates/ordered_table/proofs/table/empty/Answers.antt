use Rattle.std.proofs.Common.{◌∙◌, sym, ap, None}
use Rattle.ordered_table.proofs.Gaps.{set_none}
use Rattle.ordered_table.proofs.table.empty.Goals as goal

pub returns-in-None-clause-entries : goal.returns-in-None-clause-entries
returns-in-None-clause-entries g c =
    ap (λ m. m.entries) c.get_mut.follows.holds-at-none ∙ sym (set_none (g.K.PartialEq.eq c.args.key.now) c.args.rows.now.entries None (sym c.in-None.ensures.value))
