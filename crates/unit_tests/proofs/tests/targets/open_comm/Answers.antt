use Rattle.unit_tests.proofs.Ids.{Commits, unstaged, ids_now}
use Rattle.unit_tests.proofs.tests.targets.open_comm.Goals as goal

pub returns-clause-unstaged : goal.returns-clause-unstaged
returns-clause-unstaged g c =
    unstaged c.args.held.now c.commit.new.self c.args.opening.now c.in_ok-answer.answer (c.prepare.new.self, c.in_ok-answer.ensures.staged, c.commit.ensures)

pub returns-clause-ids : goal.returns-clause-ids
returns-clause-ids g c =
    ids_now c.args.held.now c.commit.new.self c.args.opening.now c.in_ok-answer.answer (c.prepare.new.self, c.in_ok-answer.ensures.staged, c.commit.ensures)
