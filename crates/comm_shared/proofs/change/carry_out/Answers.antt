use Rattle.std.proofs.Common.{◌≡◌, ◌<◌, ℕ, ◌+◌, ◌++◌, ◌∷◌, [], Some, List, length, slice_set, refl, ap, sym, subst, ◌∙◌, arith}
use Rattle.comm_core.specs.History.{IsLegal, mine, replay}
use Rattle.comm_core.specs.Machine.{Machine}
use Rattle.comm_core.specs.Ready.{machine, undone}
use Rattle.comm_core.specs.Row.{row_in, row_of, rows, with_row}
use Rattle.comm_core.specs.declared.entry.Entry.TheVariants.{Change}
use Rattle.comm_messages.specs.declared.outgoing.Outgoing.{Outgoing}
use Rattle.comm_core.specs.declared.reply.Reply.{Reply}
use Rattle.comm_core.specs.declared.row.Row.{Row}
use Rattle.comm_versions.specs.Asked.{ready_entry}
use Rattle.comm_versions.specs.Known.{Known, known}
use Rattle.comm_shared.specs.SharedView.{seats}
use Rattle.comm_shared.proofs.Standing.{small, may_follow, machine_there, stands_after}
use Rattle.comm_shared.proofs.change.carry_out.Goals as goal

pub overflow_add-call : goal.overflow_add-call
overflow_add-call g c =
    let low : c.args.seat < seats = omega arith in
    let few = small c.args.writer.now (undone c.args.core.now) c.args.made.now c.args.seat c.requires.kept low in
    record { fits = omega arith }

pub append-requires-clause-legal : goal.append-requires-clause-legal
append-requires-clause-legal g c =
    let k = c.args.writer.now in
    let low : c.args.seat < seats = omega arith in
    let count = c.requires.kept.totals_are.each c.args.seat low in
    subst (λ (n : ℕ). IsLegal k.origin.clients k.origin.limit (k.entries ++ ready_entry c.args.seat (n + 1) c.args.ready ∷ [])) (sym count)
    (may_follow k (undone c.args.core.now) c.args.core.now c.args.made.now c.args.seat c.args.ready c.requires.kept low c.requires.ready c.requires.same refl c.legal_histories_grow.ensures)

pub append-requires-clause-row : goal.append-requires-clause-row
append-requires-clause-row g c =
    let k = c.args.writer.now in
    let d = c.args.ready in
    let m : Machine = replay k.origin.limit k.entries in
    let low : c.args.seat < seats = omega arith in
    let count = c.requires.kept.totals_are.each c.args.seat low in
    let e = ready_entry c.args.seat (length (mine k.entries c.args.seat) + 1) d in
    let legal = may_follow k (undone c.args.core.now) c.args.core.now c.args.made.now c.args.seat d c.requires.kept low c.requires.ready c.requires.same refl c.legal_histories_grow.ensures in
    let there = machine_there k (undone c.args.core.now) c.args.core.now c.args.made.now c.args.seat d c.requires.kept low c.requires.ready c.requires.same refl in
    let row : c.in-Ok.row ≡ row_of m e = c.in-Ok.ensures c.args.core.now c.requires.ready ∙ ap (λ (x : Machine). row_in x d.call d.outcome d.reply) there in
    subst (λ (n : ℕ). with_row c.in-Ok.row (rows m) ≡ rows (replay k.origin.limit (k.entries ++ ready_entry c.args.seat (n + 1) d ∷ []))) (sym count)
    (ap (λ (x : Row). with_row x (rows m)) row ∙ c.rows_are_what_entries_change.ensures k.origin.clients k.origin.limit k.entries e legal)

pub returns-in-Ok-append-clause-kept : goal.returns-in-Ok-append-clause-kept
returns-in-Ok-append-clause-kept g c =
    let k = c.args.writer.now in
    let d = c.args.ready in
    let f = c.finish-finished in
    let low : c.args.seat < seats = omega arith in
    let count = c.requires.kept.totals_are.each c.args.seat low in
    let done = f.ensures.step ∙ ap (λ (x : Reply × List Outgoing). Some (record { reply = x.0; outgoing = x.1; next = machine f.new.self })) (λ i. (f.ensures.reply i, f.ensures.outgoing i)) in
    let his = c.in-Ok-append.ensures.appended ∙ ap (λ (n : ℕ). known k.origin (k.entries ++ ready_entry c.args.seat (n + 1) d ∷ [])) count in
    let bis = ap (λ (n : ℕ). slice_set c.args.made.now c.args.seat (n + 1)) count in
    stands_after k (undone c.args.core.now) c.args.core.now c.args.made.now c.args.seat d c.requires.kept low c.requires.ready c.requires.same refl
    c.append.new.self f.new.self _ c.legal_histories_grow.ensures c.replays_grow.ensures c.requires.room done f.ensures.settled f.ensures.limit his bis

pub returns-in-Ok-append-clause-next : goal.returns-in-Ok-append-clause-next
returns-in-Ok-append-clause-next g c =
    let k = c.args.writer.now in
    let d = c.args.ready in
    let f = c.finish-finished in
    let low : c.args.seat < seats = omega arith in
    let count = c.requires.kept.totals_are.each c.args.seat low in
    let n : ℕ = length (mine k.entries c.args.seat) + 1 in
    let his = c.in-Ok-append.ensures.appended ∙ ap (λ (n : ℕ). known k.origin (k.entries ++ ready_entry c.args.seat (n + 1) d ∷ [])) count in
    record {
      next = record {
        came = ready_entry c.args.seat n d;
        is_call = (d.outcome, d.outgoing, ap (λ (r : Reply). Change c.args.seat n d.call d.outcome r d.outgoing) (sym f.ensures.reply));
        history_is = ap (λ (x : Known). x.entries) his;
      };
      outgoing_is = sym f.ensures.outgoing;
    }
