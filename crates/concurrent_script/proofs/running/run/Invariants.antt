use Rattle.comm_manager.specs.Names.{named}
use Rattle.concurrent_script.proofs.running.run.Given as goal

abbrev pub ghosts-run_threads-M-History : goal.ghosts-run_threads-M-History
ghosts-run_threads-M-History g a = record { book = a.builder.book; limits = a.builder.limits }

abbrev pub ghosts-run_threads-M-ManagerId : goal.ghosts-run_threads-M-ManagerId
ghosts-run_threads-M-ManagerId g a = record { ledgers = named a.builder.first a.builder.second a.builder.third a.builder.fourth; queue = a.builder.queue }
