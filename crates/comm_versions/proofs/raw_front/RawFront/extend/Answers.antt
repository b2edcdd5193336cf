use Rattle.std.proofs.Common.{◌++◌, ◌∷◌, [], sym, ◌∙◌, ap, subst}
use Rattle.comm_core.specs.History.{IsLegal}
use Rattle.comm_versions.specs.Known.{Known}
use Rattle.comm_versions.proofs.Exchanging.{adds_moves}
use Rattle.comm_versions.proofs.raw_front.RawFront.extend.Goals as goal

pub compare_exchange-found-requires : goal.compare_exchange-found-requires
compare_exchange-found-requires g c =
    let e = g.X.EntrySource.entry c.args.source.now in
    let h = c.head.invariant in
    let s = c.self.inside in
    let again = c.again-seen.ensures in
    let book = ap (λ k. k.book) again ∙ (ap (λ (k : Known). k.origin.book) c.self.view_is ∙ c.requires.book) in
    let offer = c.plain-offer.ensures in
    let pen = c.no_pen-pen.ensures in
    let may : IsLegal s.clients s.comms (s.seen.log ++ e ∷ []) =
    subst (λ (k : Known). IsLegal k.origin.clients k.origin.limit (k.entries ++ e ∷ [])) (sym c.self.view_is) c.requires.legal in (
      ap (λ w. w.tracked) h,
      book ∙ sym c.head.view_is,
      pen.0 ∙ (book ∙ sym c.head.view_is),
      offer.0,
      rw (ap (λ k. k.log) again, ap (λ w. w.key) h, pen.1, offer.1, offer.3) (adds_moves s.clients s.comms s.seen.log e s.count (sym c.self.invariant.0) may),
    )
