use Rattle.std.proofs.Common.{List, map, ap, sym, ◌∙◌, subst}
use Rattle.std.proofs.lemmas.Result.{IfOk-weaker}
use Rattle.comm_messages.specs.Listed.{IdsAreInOrder}
use Rattle.comm_core.specs.Kept.{pairs_of, shown}
use Rattle.comm_core.specs.Runs.{Pair}
use Rattle.comm_core.proofs.Kept.{listing_shown}
use Rattle.comm_core.proofs.Listing.{shown_in_order}
use Rattle.comm_core.proofs.comms.Comms.listing.Goals as goal

pub infos_of-requires : goal.infos_of-requires
infos_of-requires c = subst (λ (l : List Pair). IdsAreInOrder (map shown l)) (sym c.in_ok-in_order-in-None.ensures) (shown_in_order (pairs_of c.args.self.now.all))

pub returns-in_ok-in_order-in-None : goal.returns-in_ok-in_order-in-None
returns-in_ok-in_order-in-None c =
    IfOk-weaker c.infos_of.result _ _ (λ v h. h ∙ ap (λ (l : List Pair). map shown l) c.in_ok-in_order-in-None.ensures ∙ sym (listing_shown c.args.self.now.all)) c.infos_of.ensures
