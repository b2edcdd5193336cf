use Rattle.std.proofs.Common.{◌≡◌, List, subst}
use Rattle.comm_versions.specs.Mine.{IsSettled}
use Rattle.comm_versions.specs.ClientView.{ClientView}
use Rattle.comm_manager.proofs.Growing.{known}
use Rattle.comm_manager.proofs.Made.{all_made, view_of}
use Rattle.comm_manager.proofs.client.Client.settle.Goals as goal
use Rattle.std.proofs.Common.{ℕ, slice_index}

pub returns-clause-settled : goal.returns-clause-settled
returns-clause-settled g c =
    let i = c.self.inside in
    let t = i.seq in
    let last = c.args.last.now in
    let at = subst (λ (l : List ℕ). slice_index l t.client ≡ t.number) c.requires.totals c.check.ensures.known.1 in
    subst (λ (w : ClientView). IsSettled last w) c.self.view_is
    (all_made last (view_of t i.reader) (c.learn_ended.ensures c.requires.ended) c.self.invariant.1 (known last t.client t.number c.check.ensures.known.0 at))
