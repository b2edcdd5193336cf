use Rattle.comm_manager.specs.Names.{named}
use Rattle.load_generator.proofs.running.run.Given as goal

abbrev pub ghosts-run_over_manager-M-History : goal.ghosts-run_over_manager-M-History
ghosts-run_over_manager-M-History g a = record { book = a.builder.book; limits = a.builder.limits }

abbrev pub ghosts-run_over_manager-M-ManagerId : goal.ghosts-run_over_manager-M-ManagerId
ghosts-run_over_manager-M-ManagerId g a = record { ledgers = named a.builder.first a.builder.second a.builder.third a.builder.fourth; queue = a.builder.queue }
