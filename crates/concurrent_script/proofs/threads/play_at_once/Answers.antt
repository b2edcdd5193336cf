use Rattle.std.proofs.Crossing.{crosses}
use denote.Param.Send.{sendable}
use Rattle.comm_script.proofs.stock.Stock.TheSendSync as Stock
use Rattle.comm_versions.proofs.stamp.Stamp.TheSendSync as Stamp
use Rattle.comm_manager.proofs.Crossing.{manager_sync, client_send}
use Rattle.concurrent_script.proofs.Crossing.{client_script_sync}
use Rattle.concurrent_script.proofs.threads.play_at_once.Goals as goal

pub run_workers-requires-send-C : goal.run_workers-requires-send-C
run_workers-requires-send-C g c κs within =
    let l = client_send _ g.M.ManagerId g.M.History c.type_bounds.send-M c.type_bounds.sync-M in
    search (sendable, crosses) depth 40

pub run_workers-requires-sync-W : goal.run_workers-requires-sync-W
run_workers-requires-sync-W g c κs within =
    let s = c.type_bounds.sync-R in
    let j = c.type_bounds.send-M in
    let k = c.type_bounds.sync-M in
    let t = c.type_bounds.send-T in
    let m = manager_sync _ g.M.ManagerId g.M.History j k _ g.T.Target t in
    search (sendable, crosses, client_script_sync, Stamp.the_send, Stock.the_send) depth 60
