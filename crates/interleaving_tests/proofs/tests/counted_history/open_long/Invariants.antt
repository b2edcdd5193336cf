use Rattle.comm_manager.specs.Names.{named}
use Rattle.interleaving_tests.proofs.tests.counted_history.open_long.Given as goal

abbrev pub ghosts-live_long_over-M-History : goal.ghosts-live_long_over-M-History
ghosts-live_long_over-M-History g a = record { book = a.builder.book; limits = a.builder.limits }

abbrev pub ghosts-live_long_over-M-ManagerId : goal.ghosts-live_long_over-M-ManagerId
ghosts-live_long_over-M-ManagerId g a = record { ledgers = named a.builder.first a.builder.second a.builder.third a.builder.fourth; queue = a.builder.queue }
