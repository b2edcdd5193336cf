use Rattle.std.proofs.Common.{◌≡◌, length, arith, sym}
use Rattle.comm_reader.proofs.Walking.{all_same}
use Rattle.comm_reader.proofs.walk.has_same_bytes.Goals as goal

pub returns : goal.returns
returns c =
    let whole : c.loop-at.at ≡ length c.args.name.now = omega (arith, c.loop-at.invariant.0, c.loop-at-test.false) in
    sym (all_same c.args.key.now c.args.name.now c.loop-at.at c.requires whole c.loop-at.invariant.1)
