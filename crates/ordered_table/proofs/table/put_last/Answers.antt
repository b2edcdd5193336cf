use Rattle.std.proofs.Common.{◌∙◌, ap, sym, Some, arith}
use Rattle.ordered_table.specs.Table.{there}
use Rattle.ordered_table.proofs.Gaps.{there_within, there_push}
use Rattle.ordered_table.proofs.Last.{moved}
use Rattle.indexmap.proofs.CallerLemmas.{insert_entry-new}
use Rattle.ordered_table.proofs.table.put_last.Goals as goal

pub returns-in-Ok-default-Some-clause-last : goal.returns-in-Ok-default-Some-clause-last
returns-in-Ok-default-Some-clause-last g c =
    let o = c.in-Ok-default-Some in
    moved g.K.PartialEq.eq c.args.key c.args.value c.args.rows.now.entries _ _ o._gap _ _ (sym o.ensures.old ∙ o.field-0-1-is)
    c.requires.gap o.ensures.entries o.ensures.index (omega (arith, o.ensures.within, c.len-last.ensures.len)) c.move_index.ensures.entries

pub returns-in-Ok-default-Some-clause-fits : goal.returns-in-Ok-default-Some-clause-fits
returns-in-Ok-default-Some-clause-fits g c =
    let within = there_within c.args.rows.now.entries in
    omega (arith, within, c.in-Ok-default-Some.ensures.len, c.len-last.ensures.len, c.len-last.ensures.small)

pub returns-in-Ok-default-None-clause-last : goal.returns-in-Ok-default-None-clause-last
returns-in-Ok-default-None-clause-last g c =
    let o = c.in-Ok-default-None in (
      c.args.key,
      g.met.K.Eq.laws.refl c.args.key,
      ap there (o.ensures.entries ∙ insert_entry-new g.K.PartialEq.eq c.args.rows.now c.args.key (Some c.args.value) (sym o.ensures.old ∙ o.field-0-1-is))
          ∙ there_push c.args.rows.now.entries c.args.key c.args.value,
    )

pub returns-in-Ok-default-None-clause-fits : goal.returns-in-Ok-default-None-clause-fits
returns-in-Ok-default-None-clause-fits g c =
    let within = there_within c.args.rows.now.entries in
    omega (arith, within, c.in-Ok-default-None.ensures.len, c.len-places.ensures.len, c.len-places.ensures.small)
