use Rattle.std.proofs.Common.{◌≡◌, ◌++◌, ◌∷◌, [], ◌∙◌, sym, subst, ap}
use Rattle.std.specs.Arc.{arc_value}
use Rattle.comm_core.specs.History.{IsLegal, replay}
use Rattle.comm_core.specs.Row.{rows, with_row}
use Rattle.comm_core.specs.Tables.{Opens}
use Rattle.comm_core.specs.declared.entry.Entry.{Entry}
use Rattle.comm_versions.specs.Known.{WriterValue}
use Rattle.comm_versions.specs.Listing.{ListAlike}
use Rattle.comm_versions.specs.Pending.{entries_in, FollowsFront}
use Rattle.comm_versions.proofs.Pending.{legal_more, ready_more, next_more}
use Rattle.comm_versions.proofs.writer.VersionWriter.append.Goals as goal

pub invariant_of-self-2 : goal.invariant_of-self-2
invariant_of-self-2 g c =
    let clients = g.M.History.limits.clients in
    let comms = g.M.History.limits.comms in
    let e = arc_value c.args.change.entry in
    let r = c.args.change.row in
    let w = c.self.inside in
    let all = w.front ++ entries_in w.pending.items in
    let may : IsLegal clients comms (all ++ e ∷ []) = subst (λ (w : WriterValue). IsLegal clients comms ((w.front ++ w.pending) ++ e ∷ [])) (sym c.self.view_is) c.requires.legal in
    let row : with_row r (rows (replay comms all)) ≡ rows (replay comms (all ++ e ∷ [])) =
    subst (λ (w : WriterValue). with_row r (rows (replay comms (w.front ++ w.pending))) ≡ rows (replay comms ((w.front ++ w.pending) ++ e ∷ []))) (sym c.self.view_is) c.requires.row in
    let m = c.in_ok-pending_entry.pending_entry in
    let same : arc_value m.entry ≡ e = c.in_ok-pending_entry.ensures.entry in
    let goes : with_row r w.next ≡ rows (replay comms (all ++ e ∷ [])) = ap (λ (t : Opens). with_row r t) c.self.invariant.4 ∙ row in
    let P = λ (t : Opens) (x : Entry). t ≡ rows (replay comms (all ++ x ∷ [])) in
    let root : arc_value m.root ≡ with_row r w.next = c.in_ok-pending_entry.ensures.rows in
    let next : FollowsFront comms all m =
    record {
      root = subst (P (arc_value m.root)) (sym same) (root ∙ goes);
      lists = λ no. subst (λ (t : Opens). ListAlike t (arc_value m.root)) c.self.invariant.4 (subst (λ (t : Opens). ListAlike w.next t) (sym root) (c.in_ok-pending_entry.ensures.lists no));
    } in
    rw (c.push_back_reserved.ensures.items, c.in_ok-reserve.ensures.items) (
      c.self.invariant.0,
      c.self.invariant.1,
      legal_more clients comms w.front w.pending.items m (subst (λ (x : Entry). IsLegal clients comms (all ++ x ∷ [])) (sym same) may),
      ready_more comms w.front w.pending.items m c.self.invariant.3 next,
      next_more comms w.front w.pending.items m _ (subst (P _) (sym same) (c.in_ok-pending_entry.ensures.next ∙ goes)),
    )
