-- Threads may share the clients' scripts.
use denote.Param.Send.{IsSync, sendable}
use Rattle.std.proofs.Crossing.{crosses}
use Rattle.concurrent_script.specs.contracts.script.ClientScript as client_script

pub client_script_sync : IsSync client_script.the_row
client_script_sync = search (sendable, crosses) depth 40
