use Rattle.std.proofs.Common.{◌≡◌, ◌≤◌, ℕ, Bool, List, filter, take, length, ap, sym, ◌∙◌, subst}
use Rattle.std.proofs.lemmas.List.{take_all}
use Rattle.comm_messages.specs.declared.infos.Info.{Info}
use Rattle.comm_messages.specs.Listed.{IdsAreInOrder}
use Rattle.comm_core.proofs.Kept.{all_pass}
use Rattle.comm_core.proofs.Listing.{part_in_order}
use Rattle.comm_core.proofs.infos.part_of.Goals as goal

all_parted : (q : Info → Bool) (whole items done : List Info) (n : ℕ) → length items ≤ n → done ≡ filter q (take n items) → items ≡ whole → IdsAreInOrder whole
    → IdsAreInOrder done
all_parted q whole items done n past is same h =
    subst (λ l. IdsAreInOrder l) (sym (is ∙ ap (filter q) (take_all n items past ∙ same))) (part_in_order q whole h)

pub returns-in_default : goal.returns-in_default
returns-in_default c = rw c.in_default.is (sym (all_pass c.args.whole))

pub new-requires : goal.new-requires
new-requires c =
    all_parted _ c.args.whole _ _ c.loop-info.info-index c.loop-info-test.false c.loop-info.invariant c.as_slice-info-items.ensures.listed c.as_slice-info-items.ensures.in_order
