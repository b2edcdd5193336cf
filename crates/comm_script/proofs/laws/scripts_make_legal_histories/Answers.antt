use Rattle.std.proofs.Common.{◌<◌, arith}
use Rattle.comm_script.proofs.Legal.{script_legal}
use Rattle.comm_script.proofs.laws.scripts_make_legal_histories.Goals as goal

pub returns : goal.returns
returns c = λ numbers limits stock input fits.
    let some : 0 < limits.clients = omega (arith, fits.0) in
    script_legal numbers limits some c.legal_histories_grow.ensures stock input
