use Rattle.unit_tests.proofs.Ids.{Commits, unstaged, ids_unchanged}
use Rattle.unit_tests.proofs.tests.targets.send_message.Goals as goal

pub returns-clause-unstaged : goal.returns-clause-unstaged
returns-clause-unstaged g c =
    unstaged c.args.held.now c.commit.new.self c.args.message.now c.in_ok-answer.answer (c.prepare.new.self, c.in_ok-answer.ensures.staged, c.commit.ensures)

pub returns-clause-ids : goal.returns-clause-ids
returns-clause-ids g c =
    ids_unchanged c.args.held.now c.commit.new.self c.args.message.now c.in_ok-answer.answer (c.prepare.new.self, c.in_ok-answer.ensures.staged, c.commit.ensures) c.requires.message
