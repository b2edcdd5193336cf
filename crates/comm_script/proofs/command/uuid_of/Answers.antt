use Rattle.std.proofs.Common.{true≢false, sym}
use Rattle.comm_script.proofs.Reading.{missing}
use Rattle.comm_script.specs.declared.asked.LineFault.TheVariants.{BadUuid}
use Rattle.comm_script.proofs.command.uuid_of.Goals as goal

pub returns-in-Err : goal.returns-in-Err
returns-in-Err c = missing _ BadUuid (λ u is. true≢false (sym (c.in-Err.ensures.ok.1 (u, is))))
