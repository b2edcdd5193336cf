use Rattle.comm_manager.specs.Names.{named}
use Rattle.shared_script.proofs.running.run_shared_with.Given as goal

abbrev pub ghosts-run_named-M-History : goal.ghosts-run_named-M-History
ghosts-run_named-M-History g a = record { book = a.builder.book; limits = a.builder.limits }

abbrev pub ghosts-run_named-M-ManagerId : goal.ghosts-run_named-M-ManagerId
ghosts-run_named-M-ManagerId g a = record { ledgers = named a.builder.first a.builder.second a.builder.third a.builder.fourth; queue = a.builder.queue }
