use Rattle.std.proofs.Crossing.{crosses}
use denote.Param.Send.{sendable}
use Rattle.comm_manager.proofs.Crossing.{manager_sync, client_send, publisher_send}
use Rattle.thread_harness.proofs.threads.play_in_threads.Goals as goal

pub join-requires-send-F : goal.join-requires-send-F
join-requires-send-F g c κs within =
    let s = c.type_bounds.sync-R in
    let j = c.type_bounds.send-M in
    let k = c.type_bounds.sync-M in
    let t = c.type_bounds.send-T in
    let m = manager_sync _ g.M.ManagerId g.M.History j k _ g.T.Target t in
    let l = client_send _ g.M.ManagerId g.M.History j k in
    let p = publisher_send _ g.M.ManagerId g.M.History j k in
    search (sendable, crosses) depth 60
