use Rattle.std.proofs.Common.{◌≡◌, ◌+◌, ◌∷◌, ◌++◌, take, drop}
use Rattle.comm_versions.specs.Chunks.{upsert}
use Rattle.comm_versions.proofs.Around.{if_ok}
use Rattle.comm_versions.proofs.Positions.{replaced_there, insert_there}
use Rattle.comm_versions.proofs.chunks.with_comm.Goals as goal

pub returns-in-Ok-clause-upsert : goal.returns-in-Ok-clause-upsert
returns-in-Ok-clause-upsert c =
    let xs = c.args.comms.now in
    let i = c.in-Ok.i in
    if_ok (λ all. all.items ≡ take i xs ++ c.args.comm ∷ drop (i + 1) xs) (λ all. all.items ≡ upsert xs c.args.comm) c.splice.result
    (λ all is. replaced_there xs all.items c.args.at i c.args.comm c.requires c.in-Ok.is is) c.splice.ensures.spliced

pub returns-in-Err-clause-upsert : goal.returns-in-Err-clause-upsert
returns-in-Err-clause-upsert c =
    let xs = c.args.comms.now in
    let i = c.in-Err.i in
    if_ok (λ all. all.items ≡ take i xs ++ c.args.comm ∷ drop i xs) (λ all. all.items ≡ upsert xs c.args.comm) c.splice-in-Err.result
    (λ all is. insert_there xs all.items c.args.at i c.args.comm c.requires c.in-Err.is is) c.splice-in-Err.ensures.spliced
