use Rattle.std.proofs.Common.{ap, sym}
use Rattle.std.specs.Ordering.{is_lt}
use Rattle.comm_versions.proofs.prefixed_comm.PrefixedComm.is_above.Goals as goal

pub returns-then-starts_above : goal.returns-then-starts_above
returns-then-starts_above c = sym (ap is_lt (c.starts_above.ensures c.if-starts_above.true))

pub returns-then-starts_below : goal.returns-then-starts_below
returns-then-starts_below c = sym (ap is_lt (c.starts_below.ensures c.if-starts_below.true))
