use Rattle.std.proofs.Common.{◌<◌, ℕ, subst, sym}
use Rattle.std.specs.Prelude.{IfOk}
use Rattle.comm_versions.specs.Mine.{IsAnswered}
use Rattle.comm_versions.specs.ClientView.{ClientView, client_view}
use Rattle.comm_manager.proofs.Made.{after_change, view_of}
use Rattle.comm_manager.proofs.inner.Inner.ask.Goals as goal

pub invariant_of-client : goal.invariant_of-client
invariant_of-client g c =
    let t = c.client.inside.seq in
    let p = c.ask in
    let k = p.ensures.kept.0 in
    let old : ClientView = client_view t.client t.number c.client.inside.reader in
    let done = after_change p.result (λ m. m.answered.reply) (λ m. m.answered.stamp) (λ m. m.answered.number) g.M.History.limits c.args.call old c.deref_mut.result.now.journal.all p.new.log.journal.all
    p.new.reader p.new.seq c.client.invariant.1 k.legal k.few p.ensures.next p.ensures.stamp p.ensures.seen p.ensures.seq p.ensures.err in
    (subst (λ (k : ℕ). k < g.M.History.limits.clients) (sym done.0) c.client.invariant.0, done.1)

pub returns-clause-answered : goal.returns-clause-answered
returns-clause-answered g c =
    let t = c.client.inside.seq in
    let p = c.ask in
    let k = p.ensures.kept.0 in
    let old : ClientView = client_view t.client t.number c.client.inside.reader in
    let done = after_change p.result (λ m. m.answered.reply) (λ m. m.answered.stamp) (λ m. m.answered.number) g.M.History.limits c.args.call old c.deref_mut.result.now.journal.all p.new.log.journal.all
    p.new.reader p.new.seq c.client.invariant.1 k.legal k.few p.ensures.next p.ensures.stamp p.ensures.seen p.ensures.seq p.ensures.err in
    subst (λ (w : ClientView). IfOk p.result (λ m. IsAnswered g.M.History.limits w (view_of p.new.seq p.new.reader) c.args.call m.answered.number m.answered.reply m.answered.stamp)) c.client.view_is done.2
