use Rattle.std.proofs.Common.{◌≡◌, ◌+◌, ap, arith}
use Rattle.comm_c.specs.ManagerState.{ManagerState}
use Rattle.comm_c.proofs.Within.{handled_within}
use Rattle.comm_c.proofs.held_manager.HeldManager.play.Goals as goal

pub invariant_of-self-2 : goal.invariant_of-self-2
invariant_of-self-2 c =
    let n = c.self.inside.number in
    record {
      settled = c.handle.ensures.settled;
      within = handled_within n (n + 1) c.self.inside.counted_core c.handle.new.self c.args.input _ c.self.invariant.within c.in_ok-call_result.ensures.handles;
      room = let e : n ≡ c.args.self.now.number = ap (λ (k : ManagerState). k.number) c.self.view_is in omega (arith, e, c.requires.room);
      written = λ e. cc;
    }
