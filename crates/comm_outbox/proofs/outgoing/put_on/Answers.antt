use Rattle.std.proofs.Common.{◌≡◌, ◌<◌, ◌^◌, ◌++◌, ◌∷◌, [], length, true, subst, sym}
use Rattle.std.specs.Arc.{arc_value}
use Rattle.comm_core.specs.History.{IsLegal}
use Rattle.comm_outbox.specs.declared.entry_queue.PassView.{PassView}
use Rattle.comm_outbox.specs.Order.{Item}
use Rattle.comm_outbox.proofs.Carrying.{sends}
use Rattle.comm_outbox.proofs.outgoing.put_on.Goals as goal

pub push_as-requires-clause-rule : goal.push_as-requires-clause-rule
push_as-requires-clause-rule g c =
    let i = c.loop.invariant in
    let may = subst (λ (v : PassView). v.puts ≡ true) (sym i.4) c.requires.puts in
    let room = subst (λ (v : PassView). length v.sent < 2 ^ 62) (sym i.4) c.requires.few in
    let legal = subst (λ (y : PassView × Item). IsLegal y.0.bounds.clients y.0.bounds.comms (y.0.sent ++ arc_value y.1 ∷ [])) (λ j. (sym i.4 j, sym i.2 j)) c.requires.legal in
    (sends _ _ _ _ may room legal, λ items views h at. tt)
