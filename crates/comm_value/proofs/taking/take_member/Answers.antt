use Rattle.std.proofs.Common.{Some, ap, ◌∙◌}
use Rattle.comm_value.specs.Tree.{null, dict}
use Rattle.comm_value.specs.Put.{insert}
use Rattle.comm_value.proofs.TakingLemmas.{insert_again}
use Rattle.comm_value.proofs.taking.take_member.Goals as goal

pub returns-clause-outer : goal.returns-clause-outer
returns-clause-outer c = λ t.
    let k = c.args.key.now in
    let ms = c.args.members in
    ap (λ all. Some (dict all)) (ap (insert k t) (c.in_ok-outer.ensures.inserted ∙ ap (λ j. insert j null ms) c.in_ok-place.ensures) ∙ insert_again k null t ms)
