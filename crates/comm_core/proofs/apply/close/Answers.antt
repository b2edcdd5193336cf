use Rattle.std.proofs.Common.{refl, sym}
use Rattle.comm_core.proofs.Agreeing.{some-at}
use Rattle.comm_core.proofs.Asking.{comm_there, comm_open}
use Rattle.comm_core.proofs.Carried.{closed_carried, gone_carried}
use Rattle.comm_core.proofs.apply.close.Goals as goal

pub close-requires-clause-opened : goal.close-requires-clause-opened
close-requires-clause-opened g c κs within = λ m there.
    comm_open c.args.targets.now.all c.args.comms.now.all c.requires.agrees _ c.in-Some.comm m (sym c.in-Some.ensures.taken) there

pub returns-in-Some : goal.returns-in-Some
returns-in-Some g c =
    let m = some-at _ (comm_there c.args.targets.now.all c.args.comms.now.all c.requires.agrees _ c.in-Some.comm (sym c.in-Some.ensures.taken)) in
    closed_carried _ _ c.requires.agrees c.requires.none _ _ _ c.in-Some.comm m.0 (sym c.in-Some.ensures.taken) m.1 (c.close.ensures.all m.0 m.1) c.take.ensures.all

pub returns-in_default : goal.returns-in_default
returns-in_default g c = gone_carried _ _ c.requires.agrees c.requires.none _ _ _ (sym c.in_default.ensures.taken) refl c.take.ensures.all
