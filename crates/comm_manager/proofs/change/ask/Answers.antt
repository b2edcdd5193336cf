use Rattle.std.proofs.Common.{◌≡◌, ◌+◌, ◌<◌, List, length, ap, sym, subst, ◌∙◌, arith}
use Rattle.comm_core.specs.History.{mine}
use Rattle.comm_core.specs.Ready.{CoreValue, machine}
use Rattle.comm_core.specs.declared.entry.Entry.{Entry}
use Rattle.comm_manager.specs.Log.{LogInvariant}
use Rattle.comm_manager.specs.SeqView.{SeqView, seq_view}
use Rattle.comm_manager.specs.UnderLock.{OutboxInvariant}
use Rattle.comm_manager.proofs.Growing.{admitted, small}
use Rattle.comm_manager.proofs.change.ask.Goals as goal

pub next_number-requires : goal.next_number-requires
next_number-requires g c =
    let known = c.in_default.ensures.known in
    let few = small g.M.History.limits c.args.log.now.journal.all c.args.core.now c.args.log.now.writer c.args.log.now.totals c.args.seq.now.client c.args.seq.now.number c.requires.kept.0 known.0 known.1 in
    let same = ap (λ (t : SeqView). t.number) c.reserve.ensures.same.1 in
    omega arith

pub carry_out-requires-clause-kept : goal.carry_out-requires-clause-kept
carry_out-requires-clause-kept g c κs within =
    let m = c.reserve.new in
    let a = admitted g.M.History.limits c.args.log.now.journal.all m.log.journal.all c.args.core.now c.args.log.now.writer m.log.writer c.args.log.now.totals m.log.totals c.args.seq.now m.seq c.reserve.ensures.history c.reserve.ensures.writer c.reserve.ensures.same c.requires.kept.0 c.in_default.ensures.known c.requires.below in
    let puts = subst (λ (l : List Entry). OutboxInvariant g.M.ManagerId.queue g.M.History.limits l m.log.outbox) (sym c.reserve.ensures.history) c.reserve.ensures.puts in
    subst (λ (s : CoreValue). LogInvariant g.M.ManagerId.queue g.M.History.limits m.log s) (sym c.in-Ok.ensures.undone) (a.0, puts, c.reserve.ensures.limits ∙ c.requires.kept.2)

pub carry_out-requires-clause-same : goal.carry_out-requires-clause-same
carry_out-requires-clause-same g c κs within = c.in-Ok.ensures.machine ∙ ap machine (sym c.in-Ok.ensures.undone)

pub returns-in-Ok-carry_out-clause-seq : goal.returns-in-Ok-carry_out-clause-seq
returns-in-Ok-carry_out-clause-seq g c =
    subst (λ (x : List Entry × SeqView). (c.carry_out.new.seq ≡ seq_view x.1.client (x.1.number + 1)) × (length (mine x.0 x.1.client) ≡ x.1.number)) (λ i. (c.reserve.ensures.history i, c.reserve.ensures.same.1 i)) c.in-Ok-carry_out.ensures.seq
