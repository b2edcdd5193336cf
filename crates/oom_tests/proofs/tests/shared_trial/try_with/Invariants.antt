use Rattle.comm_manager.specs.Names.{named}
use Rattle.oom_tests.proofs.tests.shared_trial.try_with.Given as goal

abbrev pub ghosts-try_over_manager-M-History : goal.ghosts-try_over_manager-M-History
ghosts-try_over_manager-M-History g a = record { book = a.builder.book; limits = a.builder.limits }

abbrev pub ghosts-try_over_manager-M-ManagerId : goal.ghosts-try_over_manager-M-ManagerId
ghosts-try_over_manager-M-ManagerId g a = record { ledgers = named a.builder.first a.builder.second a.builder.third a.builder.fourth; queue = a.builder.queue }
