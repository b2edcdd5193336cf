use Rattle.std.proofs.Common.{drop}
use Rattle.comm_versions.proofs.Seats.{shows}
use Rattle.comm_versions.proofs.showing.try_show.Goals as goal

pub publish_as-snapshots-requires : goal.publish_as-snapshots-requires
publish_as-snapshots-requires g c next is = shows _ _ c.args.snapshots.desk.shown.value next (drop c.args.snapshots.behind c.args.snapshots.log.items) c.requires is
