use Rattle.std.proofs.Common.{◌≡◌, Some, refl, subst}
use Rattle.comm_targets.specs.Meaning.{Meaning, after_abandon}
use Rattle.comm_core.specs.Machine.{at, with_at}
use Rattle.comm_core.specs.Tables.{Targets}
use Rattle.comm_core.specs.declared.target_request.TargetRequest.{TargetRequest}
use Rattle.comm_core.proofs.Reverting.{not_staged, commit_reverted}
use Rattle.comm_core.proofs.apply.revert.Goals as goal

-- what is written under the name of one request is written under that of an equal one
reverted : (b b2 : Targets) (p q : TargetRequest) → p ≡ q → ((m : Meaning) → at b p.name ≡ Some m → b2 ≡ with_at b p.name (after_abandon m)) → (m : Meaning) → at b q.name ≡ Some m → b2 ≡ with_at b q.name (after_abandon m)
reverted b b2 p q e h = subst (λ (r : TargetRequest). (m : Meaning) → at b r.name ≡ Some m → b2 ≡ with_at b r.name (after_abandon m)) e h

pub returns-in-Commit : goal.returns-in-Commit
returns-in-Commit g c = commit_reverted _ c.requires.staged.0 c.requires.staged.1 _ _ c.requires.staged.2 _ c.in-Commit.is c.requires.distinct c.requires.staged.3 c.requires.staged.4 (reverted _ _ _ _ c.request.view_is c.abandon.ensures.all)

pub returns-in-Nothing : goal.returns-in-Nothing
returns-in-Nothing g c = not_staged _ _ _ _ c.requires.distinct c.requires.staged.4 c.in-Nothing.is (λ name. refl)

pub returns-in-Register : goal.returns-in-Register
returns-in-Register g c = not_staged _ _ _ _ c.requires.distinct c.requires.staged.4 c.in-Register.is (λ name. refl)

pub returns-in-Replace : goal.returns-in-Replace
returns-in-Replace g c = not_staged _ _ _ _ c.requires.distinct c.requires.staged.4 c.in-Replace.is (λ name. refl)

pub returns-in-Unregister : goal.returns-in-Unregister
returns-in-Unregister g c = not_staged _ _ _ _ c.requires.distinct c.requires.staged.4 c.in-Unregister.is (λ name. refl)

pub returns-in-Close : goal.returns-in-Close
returns-in-Close g c = not_staged _ _ _ _ c.requires.distinct c.requires.staged.4 c.in-Close.is (λ name. refl)
