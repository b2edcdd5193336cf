use Rattle.std.proofs.Common.{refl, rules}
use Rattle.comm_versions.proofs.history.BlankHistory.new.Goals as goal

pub open-seen-requires : goal.open-seen-requires
open-seen-requires c = (record { words = refl; clients = 0; limit = 0; legal = tt }, search rules, search rules)
