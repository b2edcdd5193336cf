use Rattle.std.proofs.lemmas.List.{append-nil, nil_from_length}
use Rattle.std.proofs.Common.{arith, ◌≡◌, ◌++◌, [], List, ap, sym, subst, ◌∙◌}
use Rattle.std.specs.Prelude.{All}
use Rattle.comm_versions.specs.Mine.{IsSettled}
use Rattle.comm_versions.specs.ClientView.{ClientView}
use Rattle.comm_manager.proofs.Gathering.{gathered}
use Rattle.comm_manager.proofs.inner.settle_clients.Goals as goal

pub loop-client-init : goal.loop-client-init
loop-client-init g c = ([], sym (append-nil c.args.clients.items), (λ k d low. absurd (omega arith)), c.requires.totals)

pub loop-client-preserved-in-Some : goal.loop-client-preserved-in-Some
loop-client-preserved-in-Some g c =
    let i = c.loop-client.invariant in
    let last = c.args.last.now in
    let m = gathered (λ (w : ClientView). IsSettled last w) c.args.clients.items c.loop-client.clients.items i.0 c.pop.new.self.items c.in-Some.client i.1 i.2 c.in-Some.ensures.items c.settle.ensures.settled in
    (m.0, m.1, m.2, c.settle.ensures.same.1 ∙ i.3)

pub loop-client-preserved-in-Some-2 : goal.loop-client-preserved-in-Some-2
loop-client-preserved-in-Some-2 g c =
    let i = c.loop-client.invariant in
    let last = c.args.last.now in
    let m = gathered (λ (w : ClientView). IsSettled last w) c.args.clients.items c.loop-client.clients.items i.0 c.pop.new.self.items c.in-Some.client i.1 i.2 c.in-Some.ensures.items c.settle.ensures.settled in
    (m.0, m.1, m.2, c.settle.ensures.same.1 ∙ i.3)

pub loop-client-preserved-in-Some-3 : goal.loop-client-preserved-in-Some-3
loop-client-preserved-in-Some-3 g c =
    let i = c.loop-client.invariant in
    let last = c.args.last.now in
    let m = gathered (λ (w : ClientView). IsSettled last w) c.args.clients.items c.loop-client.clients.items i.0 c.pop.new.self.items c.in-Some.client i.1 i.2 c.in-Some.ensures.items c.settle.ensures.settled in
    (m.0, m.1, m.2, c.settle.ensures.same.1 ∙ i.3)

pub loop-client-preserved : goal.loop-client-preserved
loop-client-preserved g c =
    let i = c.loop-client.invariant in
    let last = c.args.last.now in
    let m = gathered (λ (w : ClientView). IsSettled last w) c.args.clients.items c.loop-client.clients.items i.0 c.pop.new.self.items c.in-Some.client i.1 i.2 c.in-Some.ensures.items c.settle.ensures.settled in
    (m.0, m.1, m.2, c.settle.ensures.same.1 ∙ i.3)

pub returns : goal.returns
returns g c =
    let i = c.loop-client.invariant in
    let last = c.args.last.now in
    let none = nil_from_length c.loop-client.clients.items (sym c.loop-client.clients.ok.0 ∙ c.in_default.ensures.cases.0) in
    let whole : i.0 ≡ c.args.clients.items = sym (i.1 ∙ ap (λ (l : List ClientView). l ++ i.0) none) in
    subst (λ (l : List ClientView). All (λ (w : ClientView). IsSettled last w) l) whole i.2
