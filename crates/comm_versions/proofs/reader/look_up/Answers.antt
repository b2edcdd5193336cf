use Rattle.comm_versions.proofs.Seats.{reads}
use Rattle.comm_versions.proofs.reader.look_up.Goals as goal

pub enter_as-requires : goal.enter_as-requires
enter_as-requires c x = reads _ _ x
