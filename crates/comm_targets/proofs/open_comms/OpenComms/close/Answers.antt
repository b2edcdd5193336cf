use Rattle.std.proofs.Common.{◌≡◌, ◌-◌, true, length, ap, ◌∙◌, arith}
use Rattle.comm_targets.specs.OpenComms.{OpenAndStaged}
use Rattle.comm_targets.specs.Meaning.{has_id, without}
use Rattle.comm_targets.proofs.Counted.{one_less, fewer_can}
use Rattle.comm_targets.proofs.open_comms.OpenComms.close.Goals as goal

pub invariant_of-self : goal.invariant_of-self
invariant_of-self c =
    let ids = c.self.inside.ids.ids in
    let opened : has_id ids c.args.id.now ≡ true = ap (λ (b : OpenAndStaged). has_id b.ids c.args.id.now) c.self.view_is ∙ c.requires in
    let less = one_less c.args.id.now ids opened in
    let gone : length c.without.result.ids ≡ length (without c.args.id.now ids) = ap length c.without.ensures in
    (omega (arith, gone, less, c.self.invariant.0), fewer_can c.self.inside.staged (c.self.inside.count - 1) c.self.inside.count (omega arith) c.self.invariant.1)
