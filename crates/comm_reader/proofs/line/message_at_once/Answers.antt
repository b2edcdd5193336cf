use Rattle.std.proofs.Common.{refl}
use Rattle.json.specs.Json.{object}
use Rattle.comm_value.proofs.ReadingLemmas.{if_some}
use Rattle.comm_messages.proofs.ObjectLemmas.{object_read}
use Rattle.comm_reader.specs.Reader.{IsMessage}
use Rattle.comm_reader.proofs.line.message_at_once.Goals as goal

pub returns-clause-message : goal.returns-clause-message
returns-clause-message c =
    let r = c.in_ok-read.ensures.reads in
    let line = object_read c.args.line.now (object r.0) c.in_ok-read.ensures.utf8 r.1 refl in
    if_some c.message_of.result _ _ (λ m h. let is : IsMessage c.args.absent.now c.args.clients c.args.numbers c.args.line.now (m.0, m.1) = (r.0, line, h c.args.absent.now c.args.clients c.args.numbers r.0 r.2) in is) c.message_of.ensures.message
