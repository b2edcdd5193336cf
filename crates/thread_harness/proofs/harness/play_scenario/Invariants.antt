use Rattle.comm_manager.specs.Names.{named}
use Rattle.thread_harness.proofs.harness.play_scenario.Given as goal

abbrev pub ghosts-play_over_manager-M-History : goal.ghosts-play_over_manager-M-History
ghosts-play_over_manager-M-History g a = record { book = a.builder.book; limits = a.builder.limits }

abbrev pub ghosts-play_over_manager-M-ManagerId : goal.ghosts-play_over_manager-M-ManagerId
ghosts-play_over_manager-M-ManagerId g a = record { ledgers = named a.builder.first a.builder.second a.builder.third a.builder.fourth; queue = a.builder.queue }
