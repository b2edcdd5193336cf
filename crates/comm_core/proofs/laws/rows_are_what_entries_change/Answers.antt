use Rattle.comm_core.proofs.Rows.{leaves}
use Rattle.comm_core.proofs.laws.rows_are_what_entries_change.Goals as goal

pub returns : goal.returns
returns c = leaves
