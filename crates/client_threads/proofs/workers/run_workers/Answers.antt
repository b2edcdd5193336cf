use Rattle.std.proofs.Crossing.{crosses}
use denote.Param.Send.{sendable}
use Rattle.comm_manager.proofs.Crossing.{publisher_send}
use Rattle.client_threads.proofs.workers.run_workers.Goals as goal

pub join-requires-send-F : goal.join-requires-send-F
join-requires-send-F g c κs within =
    let s = c.type_bounds.sync-R in
    let p = publisher_send _ g.M.ManagerId g.M.History c.type_bounds.send-M c.type_bounds.sync-M in
    search (sendable, crosses) depth 60
