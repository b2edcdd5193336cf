use Rattle.std.proofs.Common.{sym, ap}
use Rattle.comm_core.specs.Ready.{readied}
use Rattle.comm_core.proofs.Readying.{staged_now, suits_now, sound_unstaged}
use Rattle.comm_core.proofs.manager.Core.take_back.Goals as goal

pub revert-requires-clause-staged : goal.revert-requires-clause-staged
revert-requires-clause-staged g c κs within =
    let r = c.requires.ready.0 in
    let is = ap (λ u. readied r.call r.outcome r.reply r.outgoing u r.registered) (sym c.requires.ready.2) in (
      c.self.inside.comms.all,
      r.registered,
      r.outcome,
      suits_now _ _ _ _ _ _ _ _ _ _ _ _ c.self.view_is is c.requires.ready.1,
      staged_now _ _ _ _ _ _ _ _ _ _ _ _ c.self.view_is is c.requires.ready.1,
    )

pub invariant_of-self : goal.invariant_of-self
invariant_of-self g c = sound_unstaged _ _ _ _ _ c.self.invariant.agrees c.revert.ensures
