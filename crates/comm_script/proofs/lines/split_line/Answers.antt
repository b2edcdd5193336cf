use Rattle.comm_script.proofs.Cut.{none_before, nowhere}
use Rattle.comm_script.proofs.lines.split_line.Goals as goal

pub returns-in-Some-clause-first : goal.returns-in-Some-clause-first
returns-in-Some-clause-first c = none_before c.args.bytes.now c.in-Some.end c.in-Some.ensures.0.high c.in-Some.ensures.0.before

pub returns-in-None-clause-none : goal.returns-in-None-clause-none
returns-in-None-clause-none c = nowhere c.args.bytes.now c.in-None.ensures
