use Rattle.std.proofs.Common.{ap, ◌∙◌}
use Rattle.comm_core.specs.Ready.{CoreValue}
use Rattle.comm_core.proofs.Readying.{sound-settled, call_ready, ready_allowed, ready_staged, ready_step, came_machine, undone_is}
use Rattle.comm_core.proofs.manager.Core.ready.Goals as goal

pub invariant_of-self : goal.invariant_of-self
invariant_of-self g c = sound-settled _ _ _ _ _ _ _ _ _ c.self.invariant c.make_room.ensures.targets c.make_room.ensures.comms (ap (λ (s : CoreValue). s.settled) c.self.view_is ∙ c.requires.settled)

pub invariant_of-self-in_err-evaluation : goal.invariant_of-self-in_err-evaluation
invariant_of-self-in_err-evaluation g c = sound-settled _ _ _ _ _ _ _ _ _ c.self.invariant (c.in_err-evaluation.ensures.err ∙ c.make_room.ensures.targets) c.make_room.ensures.comms (ap (λ (s : CoreValue). s.settled) c.self.view_is ∙ c.requires.settled)

pub returns-clause-ready : goal.returns-clause-ready
returns-clause-ready g c = call_ready _ _ _ _ _ _ _ _ _ c.in_ok-evaluation.ensures.came

pub returns-clause-machine : goal.returns-clause-machine
returns-clause-machine g c =
    came_machine _ _ _ _ c.evaluate.new.targets.all _ _ _ c.self.view_is c.make_room.ensures.targets c.make_room.ensures.comms c.in_ok-evaluation.ensures.came.unstaged_is

pub returns-clause-allowed : goal.returns-clause-allowed
returns-clause-allowed g c = ready_allowed c.args.self.now _ _ _ _ (returns-clause-ready g c) (ap (λ (s : CoreValue). s.limit) c.self.view_is) (returns-clause-machine g c)

pub returns-clause-staged : goal.returns-clause-staged
returns-clause-staged g c = ready_staged c.args.self.now _ _ _ _ (returns-clause-ready g c) (ap (λ (s : CoreValue). s.limit) c.self.view_is) (returns-clause-machine g c)

pub returns-clause-step : goal.returns-clause-step
returns-clause-step g c = ready_step c.args.self.now _ _ _ _ (returns-clause-ready g c) (ap (λ (s : CoreValue). s.limit) c.self.view_is) (returns-clause-machine g c)

pub returns-clause-undone : goal.returns-clause-undone
returns-clause-undone g c =
    undone_is _ _ _ _ c.evaluate.new.targets.all _ _ _ _ _ c.self.view_is c.requires.settled c.self.invariant c.make_room.ensures.targets c.make_room.ensures.comms c.in_ok-evaluation.ensures.came.unstaged_is
