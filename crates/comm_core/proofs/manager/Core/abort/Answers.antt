use Rattle.std.proofs.Common.{ap, sym}
use Rattle.comm_core.specs.Ready.{Readied}
use Rattle.comm_core.proofs.manager.Core.abort.Goals as goal

pub take_back-requires-clause-prepared : goal.take_back-requires-clause-prepared
take_back-requires-clause-prepared g c κs within = c.requires.ready.prepared

pub take_back-requires-clause-ready : goal.take_back-requires-clause-ready
take_back-requires-clause-ready g c κs within = (c.args.prepared, c.requires.ready, sym (ap (λ (r : Readied). r.table_update) c.prepared.view_is))
