use Rattle.std.proofs.Crossing.{crosses}
use denote.Param.Send.{sendable}
use Rattle.comm_manager.proofs.Crossing.{counted_sync, client_send}
use Rattle.load_generator.proofs.Crossing.{job_sync, signals_sync}
use Rattle.load_generator.proofs.threads.work_at_once.Goals as goal

pub run_workers-requires-send-C : goal.run_workers-requires-send-C
run_workers-requires-send-C g c κs within =
    let l = client_send _ g.M.ManagerId g.M.History c.type_bounds.send-M c.type_bounds.sync-M in
    search (sendable, crosses) depth 40

pub run_workers-requires-sync-W : goal.run_workers-requires-sync-W
run_workers-requires-sync-W g c κs within =
    let s = c.type_bounds.sync-R in
    let j = c.type_bounds.send-M in
    let k = c.type_bounds.sync-M in
    let t = c.type_bounds.send-T in
    let m = counted_sync _ g.M.ManagerId g.M.History j k _ g.T.Target t in
    search (sendable, crosses, job_sync, signals_sync) depth 60
