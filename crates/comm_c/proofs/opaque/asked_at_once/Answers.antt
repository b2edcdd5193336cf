use Rattle.std.proofs.Common.{subst, sym}
use Rattle.comm_messages.specs.Buffers.{raw_buffers}
use Rattle.comm_core.specs.Ready.{machine}
use Rattle.comm_c.specs.Opaque.{AskedByParts}
use Rattle.comm_c.proofs.AtOnce.{asked_by_parts}
use Rattle.comm_c.proofs.opaque.asked_at_once.Goals as goal

pub returns-clause-asked : goal.returns-clause-asked
returns-clause-asked c =
    let m = machine c.args.core.now in
    subst (λ r. AskedByParts m c.args.numbers c.args.client c.args.header.now c.args.metadata.now c.args.content.now (raw_buffers c.args.buffers) (c.in_ok-client.client, r)) (sym c.asked_for.ensures.asked)
    (asked_by_parts m c.args.numbers c.args.client c.args.header.now c.args.metadata.now c.args.content.now (raw_buffers c.args.buffers) (c.in_ok-client.client, c.in_ok-client.message) c.in_ok-client.ensures.message)
