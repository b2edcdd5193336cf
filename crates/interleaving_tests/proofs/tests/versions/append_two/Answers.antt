use Rattle.std.proofs.Common.{◌≡◌, ◌++◌, ◌∷◌, [], List, refl, ap, sym, subst, ◌∙◌}
use Rattle.std.specs.Arc.{arc_value}
use Rattle.comm_core.specs.History.{IsLegal, replay}
use Rattle.comm_core.specs.Row.{rows, with_row}
use Rattle.comm_core.specs.declared.entry.Entry.{Entry}
use Rattle.comm_core.specs.declared.row.Row.{Row}
use Rattle.comm_core.specs.declared.row.Row.TheVariants as row
use Rattle.interleaving_tests.specs.Closes.{close_of}
use Rattle.interleaving_tests.proofs.tests.versions.append_two.Goals as goal

pub append-requires-clause-legal : goal.append-requires-clause-legal
append-requires-clause-legal g c =
    let l = g.M.History.limits in
    let w = c.args.writer.now in
    let here : w.front ++ w.pending ≡ close_of 1 ∷ [] = ap (λ (x : List Entry). x ++ w.pending) c.requires.front ∙ c.requires.pending in
    let legal : IsLegal l.clients l.comms (close_of 1 ∷ close_of 2 ∷ []) = ((refl, c.requires.limits, refl, tt, (_, refl, refl, refl)), ((refl, c.requires.limits, refl, tt, (_, refl, refl, refl)), tt)) in
    subst (λ (x : List Entry). IsLegal l.clients l.comms (x ++ arc_value c.args.change.entry ∷ [])) (sym here)
    (subst (λ (e : Entry). IsLegal l.clients l.comms (close_of 1 ∷ e ∷ [])) (sym c.requires.entry) legal)

pub append-requires-clause-row : goal.append-requires-clause-row
append-requires-clause-row g c =
    let l = g.M.History.limits in
    let w = c.args.writer.now in
    let here : w.front ++ w.pending ≡ close_of 1 ∷ [] = ap (λ (x : List Entry). x ++ w.pending) c.requires.front ∙ c.requires.pending in
    let same : with_row row.Same (rows (replay l.comms (close_of 1 ∷ []))) ≡ rows (replay l.comms (close_of 1 ∷ close_of 2 ∷ [])) = refl in
    subst (λ (x : List Entry). with_row c.args.change.row (rows (replay l.comms x)) ≡ rows (replay l.comms (x ++ arc_value c.args.change.entry ∷ []))) (sym here)
    (subst (λ (e : Entry). with_row c.args.change.row (rows (replay l.comms (close_of 1 ∷ []))) ≡ rows (replay l.comms (close_of 1 ∷ e ∷ []))) (sym c.requires.entry)
    (subst (λ (r : Row). with_row r (rows (replay l.comms (close_of 1 ∷ []))) ≡ rows (replay l.comms (close_of 1 ∷ close_of 2 ∷ []))) (sym c.requires.row) same))
