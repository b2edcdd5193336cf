use Rattle.std.proofs.Common.{◌≡◌, ◌+◌, ◌++◌, ◌∷◌, [], ◌<◌, List, Some, length, refl, ap, sym, subst, ◌∙◌, arith}
use Rattle.std.specs.Arc.{arc_value}
use Rattle.comm_messages.specs.declared.outgoing.Outgoing.{Outgoing}
use Rattle.comm_core.specs.History.{IsLegal, replay}
use Rattle.comm_core.specs.Machine.{Machine}
use Rattle.comm_core.specs.Ready.{machine, undone}
use Rattle.comm_core.specs.Row.{row_in, row_of, rows, with_row}
use Rattle.comm_core.specs.declared.entry.Entry.{Entry}
use Rattle.comm_core.specs.declared.reply.Reply.{Reply}
use Rattle.comm_core.specs.declared.row.Row.{Row}
use Rattle.comm_versions.specs.Asked.{ready_entry}
use Rattle.comm_manager.proofs.Growing.{count_is, small, machine_there, may_follow, kept_after}
use Rattle.comm_manager.proofs.change.carry_out.Goals as goal

pub append-requires-clause-legal : goal.append-requires-clause-legal
append-requires-clause-legal g c =
    let limits = g.M.History.limits in
    let log = c.args.log.now in
    let t = c.args.seq.now in
    subst (λ (e : Entry). IsLegal limits.clients limits.comms ((log.writer.front ++ log.writer.pending) ++ e ∷ [])) (sym c.requires.entry)
    (may_follow limits log.journal.all (undone c.args.core.now) c.args.core.now log.writer log.totals t.client t.number c.args.recording.change c.requires.kept.0 c.requires.known.0 c.requires.known.1 c.requires.ready c.requires.same refl
    c.legal_histories_grow.ensures c.requires.below)

pub append-requires-clause-row : goal.append-requires-clause-row
append-requires-clause-row g c =
    let limits = g.M.History.limits in
    let log = c.args.log.now in
    let t = c.args.seq.now in
    let d = c.args.recording.change in
    let es = log.writer.front ++ log.writer.pending in
    let e = ready_entry t.client (t.number + 1) d in
    let m = replay limits.comms es in
    let legal =
    may_follow limits log.journal.all (undone c.args.core.now) c.args.core.now log.writer log.totals t.client t.number d c.requires.kept.0 c.requires.known.0 c.requires.known.1 c.requires.ready c.requires.same refl c.legal_histories_grow.ensures c.requires.below in
    let there =
    machine_there limits log.journal.all (undone c.args.core.now) c.args.core.now log.writer log.totals t.client t.number d c.requires.kept.0 c.requires.known.0 c.requires.known.1 c.requires.ready c.requires.same refl in
    let row : c.args.recording.row ≡ row_of m e = c.requires.row ∙ ap (λ (k : Machine). row_in k d.call d.outcome d.reply) there in
    ap (λ (k : Row). with_row k (rows m)) row
    ∙ (c.rows_are_what_entries_change.ensures limits.clients limits.comms es e legal ∙ ap (λ (k : Entry). rows (replay limits.comms (es ++ k ∷ []))) (sym c.requires.entry))

pub complete-number-requires-clause-number : goal.complete-number-requires-clause-number
complete-number-requires-clause-number g c =
    let log = c.args.log.now in
    let few = small g.M.History.limits log.journal.all (undone c.args.core.now) log.writer log.totals c.args.seq.now.client c.args.seq.now.number c.requires.kept.0 c.requires.known.0 c.requires.known.1 in
    omega arith

pub returns-in-Ok-clause-kept : goal.returns-in-Ok-clause-kept
returns-in-Ok-clause-kept g c =
    let log = c.args.log.now in
    let t = c.args.seq.now in
    let d = c.args.recording.change in
    let f = c.commit_recorded-reply in
    let n = c.complete-number in
    let done = f.ensures.step ∙ ap (λ (r : Reply). Some (record { reply = r; outgoing = d.outgoing; next = machine f.new.self })) f.ensures.reply in
    let his = n.ensures.history ∙ ap (λ (e : Entry). log.journal.all ++ e ∷ []) (c.in-Ok.ensures.sent ∙ c.requires.entry) in
    let kept =
    kept_after g.M.History.limits log.journal.all (undone c.args.core.now) c.args.core.now log.writer log.totals t.client t.number d c.requires.kept.0 c.requires.known.0 c.requires.known.1 c.requires.ready c.requires.same refl
    n.new.log.journal.all f.new.self n.new.log.writer n.new.log.totals c.legal_histories_grow.ensures c.replays_grow.ensures c.requires.below c.requires.room.2 done f.ensures.settled f.ensures.limit his n.ensures.front.0 n.ensures.front.1 n.ensures.totals in
    (kept, n.ensures.puts, n.ensures.limits ∙ c.requires.kept.2)

pub returns-in-Ok-clause-seq : goal.returns-in-Ok-clause-seq
returns-in-Ok-clause-seq g c =
    let log = c.args.log.now in
    (c.complete-number.ensures.seq, count_is g.M.History.limits log.journal.all (undone c.args.core.now) log.writer log.totals c.args.seq.now.client c.args.seq.now.number c.requires.kept.0 c.requires.known.0 c.requires.known.1)
