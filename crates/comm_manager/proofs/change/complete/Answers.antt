use Rattle.std.proofs.Common.{◌≡◌, ◌++◌, ◌∷◌, [], List, ap, sym, ◌∙◌}
use Rattle.std.specs.Arc.{arc_value}
use Rattle.comm_core.specs.declared.entry.Entry.{Entry}
use Rattle.comm_manager.proofs.Made.{heard}
use Rattle.comm_manager.proofs.change.complete.Goals as goal

pub returns-clause-seen : goal.returns-clause-seen
returns-clause-seen g c =
    let h = c.args.log.now.journal.all in
    let e = arc_value c.args.sent in
    let stamp : c.publish-stamp.result ≡ h ++ e ∷ [] =
    c.publish-stamp.ensures.stamp ∙ ap (λ (x : List Entry × List Entry). x.0 ++ x.1) (λ i. (c.requires.front i, c.requires.pending i)) in
    let r = heard c.args.reader.now c.publish-stamp.new.reader c.publish-stamp.result h e stamp c.requires.seen c.publish-stamp.ensures.one c.publish-stamp.ensures.own c.publish-stamp.ensures.heard in
    (r.0 ∙ (sym c.copy.ensures ∙ sym c.add.ensures), r.1)
