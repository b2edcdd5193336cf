use Rattle.std.proofs.Common.{◌≡◌, ℕ, ◌+◌, ◌≤◌, length, refl, ap, subst, ◌∙◌}
use Rattle.comm_core.specs.History.{mine}
use Rattle.comm_shared.specs.SharedView.{IsMade, SharedView}
use Rattle.comm_shared.proofs.Clients.{has_made_as}
use Rattle.comm_shared.proofs.client.SharedClient.change.Goals as goal

pub returns-clause-made : goal.returns-clause-made
returns-clause-made g c =
    let old = c.args.self.now in
    let before = c.args.manager.now in
    let after = c.change.new.self in
    let m = c.in_ok-made in
    let seat_is : c.self.inside.seat ≡ old.own.client = ap (λ (v : SharedView). v.own.client) c.self.view_is in
    let some = subst (λ (v : SharedView). v.own.number ≤ length (mine v.own.seen v.own.client)) c.self.view_is c.self.invariant in
    let made = subst (λ (s : ℕ). IsMade before.entries after.entries s (length (mine before.entries s) + 1) c.args.call m.made.reply m.made.outgoing.items) seat_is m.ensures.next in
    let call = m.ensures.call ∙ ap (λ (s : ℕ). length (mine before.entries s) + 1) seat_is in
    has_made_as old before after c.args.call m.made.reply m.made.outgoing.items m.made.number m.made.call some c.requires.same m.ensures.origin
    (c.if-not-knows.ensures.seen refl) (c.if-not-knows.ensures.number refl) made c.front.ensures.legal c.front.ensures.few m.ensures.number call
    c.self.inside.seat c.advance.new.self seat_is (c.advance.ensures ∙ c.front.ensures.front)
