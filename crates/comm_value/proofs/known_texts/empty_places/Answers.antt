use Rattle.std.proofs.Common.{◌≡◌, ◌≤◌, ◌∙◌, ℕ, List, [], ◌∷◌, length, length-append, ap, sym, refl, subst, arith}
use Rattle.comm_value.specs.KnownTexts.{AreShort}
use Rattle.comm_value.proofs.KeptTexts.{short_push}
use Rattle.comm_value.proofs.known_texts.empty_places.Goals as goal

pub loop-init : goal.loop-init
loop-init c = rw c.in_ok-places.ensures.items (refl, tt)

pub loop-preserved : goal.loop-preserved
loop-preserved c =
    let one = length-append c.loop.places.items (c.in_ok-copy.field-0 ∷ []) in
    let empty : c.in_ok-copy.field-0 ≡ [] = c.in_ok-copy.ensures ∙ c.in_ok-empty.ensures in
    let short : length c.in_ok-copy.field-0 ≤ 40 = omega (arith, ap (λ (t : List ℕ). length t) empty) in
    (omega (arith, c.loop.invariant.0, one, ap length c.in_ok-push.ensures.items), subst AreShort (sym c.in_ok-push.ensures.items) (short_push c.loop.places.items _ c.loop.invariant.1 short))

pub returns : goal.returns
returns c = (omega (arith, c.loop.invariant.0, c.loop.auto.counter-end), c.loop.invariant.1)
