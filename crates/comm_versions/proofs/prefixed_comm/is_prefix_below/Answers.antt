use Rattle.std.proofs.Common.{arith}
use Rattle.comm_versions.proofs.IdPrefixes.{numbers_below}
use Rattle.comm_versions.proofs.prefixed_comm.is_prefix_below.Goals as goal

pub returns : goal.returns
returns c = numbers_below c.args.one c.args.other (omega (arith, c.ranges.one.fits)) (omega (arith, c.ranges.other.fits))
