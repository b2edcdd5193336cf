use Rattle.std.proofs.Common.{◌≡◌, Ok, ap, ◌∙◌, refl, rules}
use Rattle.json.specs.Json.{object}
use Rattle.comm_messages.specs.Buffers.{raw_buffers}
use Rattle.comm_messages.specs.Envelope.{of_parts}
use Rattle.comm_reader.specs.Reader.{HasRest}
use Rattle.comm_reader.proofs.MessageTests.{message_is, by_parts}
use Rattle.comm_reader.proofs.parts.parts_at_once.Goals as goal

pub returns-clause-message : goal.returns-clause-message
returns-clause-message c =
    let h = c.in_ok-read.ensures.header in
    let m = c.in_ok-read.ensures.metadata in
    let r = c.in_ok-read.ensures.content in
    let all = raw_buffers c.args.parts.buffers in
    let buffers : all ≡ c.in_ok-buffers.buffers = search rules in
    let from = of_parts c.args.parts.client (object h.0) (object m.0) (object r.0) all in
    let rest : HasRest from c.in_ok-read.read.version c.in_ok-buffers.buffers = ((m.0, refl, m.2), ap Ok buffers) in
    by_parts c.args.clients c.args.numbers c.args.parts.client c.args.parts.header.now c.args.parts.metadata.now c.args.parts.content.now all (object h.0) (object m.0) (object r.0) h.1 m.1 r.1
    ∙ message_is c.args.clients c.args.numbers from r.0 c.in_ok-client.client c.in_ok-read.read.type_ c.in_ok-incoming.incoming c.in_ok-client.ensures.value h.2 refl (c.in_ok-incoming.ensures c.args.numbers from r.0 r.2 rest)
