use Rattle.comm_versions.proofs.Crossing.{versions}
use Rattle.interleaving_tests.proofs.tests.versions.write_and_read.Goals as goal

pub join-requires-send-F : goal.join-requires-send-F
join-requires-send-F g c κs within =
    let s = c.type_bounds.sync-R in
    let j = c.type_bounds.send-M in
    let k = c.type_bounds.sync-M in
    search versions depth 60
