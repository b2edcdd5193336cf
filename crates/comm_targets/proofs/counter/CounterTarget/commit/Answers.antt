use Rattle.comm_targets.proofs.CounterCommit.{counter_commits}
use Rattle.comm_targets.proofs.counter.CounterTarget.commit.Goals as goal

pub returns : goal.returns
returns c = λ s staged.
    counter_commits c.args.self.now.count c.count_staged-self.result c.args.self.now.comms c.commit.new.self s
    staged (c.commit.ensures s staged) c.count_staged-self.ensures
