use Rattle.std.proofs.Common.{◌++◌, ◌∷◌, [], List, sym, subst}
use Rattle.std.specs.Arc.{arc_value}
use Rattle.comm_core.specs.History.{replay}
use Rattle.comm_core.specs.Row.{rows}
use Rattle.comm_core.specs.declared.entry.Entry.{Entry}
use Rattle.comm_versions.specs.Listing.{ListAlike}
use Rattle.comm_versions.proofs.Relisting.{settled_next}
use Rattle.comm_versions.proofs.published_front.PublishedFront.extend.Goals as goal

pub invariant_of-self-else-changes_listing : goal.invariant_of-self-else-changes_listing
invariant_of-self-else-changes_listing g c =
    let limit = g.M.History.limits.comms in
    let front = c.self.inside.front in
    let e = arc_value c.args.entry.now in
    let is = c.if-not-extend.ensures in
    let same : ListAlike (rows (replay limit front)) (rows (replay limit (front ++ e ∷ []))) =
    subst (λ (es : List Entry). ListAlike (rows (replay limit es)) (rows (replay limit (es ++ e ∷ [])))) (sym c.self.view_is) (c.requires.lists c.if-changes_listing.false) in
    settled_next limit c.self.inside.listing_since front c.extend.new.self e is c.self.invariant (subst (λ (es : List Entry). ListAlike (rows (replay limit front)) (rows (replay limit es))) (sym is) same)
