-- Threads may share the clients' jobs, and what they tell one another.
use denote.Param.Send.{IsSync, sendable}
use Rattle.std.proofs.Crossing.{crosses}
use Rattle.comm_value.proofs.text.Text.TheSendSync as Text
use Rattle.load_generator.specs.contracts.worker.Job as job
use Rattle.load_generator.specs.contracts.worker.Signals as signals

pub job_sync : IsSync job.the_row
job_sync = search (sendable, crosses, Text.the_sync) depth 40

pub signals_sync : IsSync signals.the_row
signals_sync = search (sendable, crosses) depth 40
