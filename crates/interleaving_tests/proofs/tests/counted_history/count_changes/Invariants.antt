use Rattle.comm_manager.specs.Names.{named}
use Rattle.interleaving_tests.proofs.tests.counted_history.count_changes.Given as goal

abbrev pub ghosts-count_over_manager-M-History : goal.ghosts-count_over_manager-M-History
ghosts-count_over_manager-M-History g a = record { book = a.builder.book; limits = a.builder.limits }

abbrev pub ghosts-count_over_manager-M-ManagerId : goal.ghosts-count_over_manager-M-ManagerId
ghosts-count_over_manager-M-ManagerId g a = record { ledgers = named a.builder.first a.builder.second a.builder.third a.builder.fourth; queue = a.builder.queue }
