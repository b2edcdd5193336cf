use Rattle.std.proofs.Common.{◌≡◌, ◌++◌, ◌∷◌, [], List, ap, sym, subst, ◌∙◌}
use Rattle.std.proofs.lemmas.List.{append-nil}
use Rattle.comm_core.specs.History.{IsLegal, replay}
use Rattle.comm_core.specs.Row.{rows, with_row}
use Rattle.comm_core.specs.declared.entry.Entry.{Entry}
use Rattle.comm_core.specs.declared.entry.Entry.TheVariants.{End}
use Rattle.comm_core.specs.declared.row.Row.{Row}
use Rattle.comm_manager.proofs.inner.end_history.Goals as goal

pub append-requires-clause-row : goal.append-requires-clause-row
append-requires-clause-row g c =
    let limits = g.M.History.limits in
    let w = c.args.writer.now in
    let h = c.args.journal.now.all in
    let es = w.front ++ w.pending in
    let whole : es ≡ h = ap (λ (l : List Entry). l ++ w.pending) c.requires.front.0 ∙ (ap (λ (l : List Entry). h ++ l) c.requires.front.1 ∙ append-nil h) in
    let legal : IsLegal limits.clients limits.comms (es ++ End ∷ []) =
    subst (λ (l : List Entry). IsLegal limits.clients limits.comms (l ++ End ∷ [])) (sym whole) (c.legal_histories_grow.ensures limits.clients limits.comms h End c.requires.legal.0 c.requires.legal.1) in
    ap (λ (k : Row). with_row k (rows (replay limits.comms es))) c.in_ok-change.ensures.change.1
    ∙ (c.rows_are_what_entries_change.ensures limits.clients limits.comms es End legal
    ∙ ap (λ (k : Entry). rows (replay limits.comms (es ++ k ∷ []))) (sym c.in_ok-change.ensures.change.0))
