-- What stands ready once a call was evaluated; for private clauses.
use Rattle.std.specs.Prelude.{Option}
use Rattle.comm_targets.specs.Meaning.{Meaning}
use Rattle.comm_core.specs.Ready.{Readied, readied}
use Rattle.comm_core.specs.declared.call.Call.{Call}
use Rattle.comm_core.specs.declared.evaluation.Evaluation.{Evaluation}

abbrev pub evaluated : Call → Evaluation → Option Meaning → Readied
evaluated call e registered = readied call e.outcome e.reply e.outgoing.items e.table_update registered
