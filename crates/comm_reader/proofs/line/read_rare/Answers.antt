use Rattle.json.specs.Json.{no_members, object}
use Rattle.json.specs.Value.{value_view}
use Rattle.comm_json.specs.Behind.{tidy, tidy_members}
use Rattle.comm_reader.proofs.Slots.{takes_metadata, takes_buffers, takes_client, takes_none}
use Rattle.comm_reader.proofs.line.read_rare.Goals as goal

pub returns-in_ok-read_metadata-in-Metadata-clause-reads : goal.returns-in_ok-read_metadata-in-Metadata-clause-reads
returns-in_ok-read_metadata-in-Metadata-clause-reads c =
    let r = c.in_ok-read_metadata-in-Metadata.ensures.reads in
    (object r.0, r.1, r.2, takes_metadata c.args.clients c.args.line.now c.args.key c.in-Metadata.is c.in_ok-read_metadata-in-Metadata.field-0 (tidy_members r.0 no_members) r.3)

pub returns-in_ok-line-in-Buffers-clause-reads : goal.returns-in_ok-line-in-Buffers-clause-reads
returns-in_ok-line-in-Buffers-clause-reads c =
    let r = c.in_ok-line-in-Buffers.ensures.reads in
    (r.0, r.1, r.2, takes_buffers c.args.clients c.args.line.now c.args.key c.in-Buffers.is c.in_ok-line-in-Buffers.field-0 (tidy r.0) r.3)

pub returns-in_ok-line-in-Client-clause-reads : goal.returns-in_ok-line-in-Client-clause-reads
returns-in_ok-line-in-Client-clause-reads c =
    let r = c.in_ok-line-in-Client.ensures.reads in
    (r.0, r.1, r.2, takes_client c.args.clients c.args.line.now c.args.key c.in-Client.is c.in_ok-line-in-Client.field-0 (tidy r.0) r.3)

pub returns-in_ok-read_value-in-Other-clause-reads : goal.returns-in_ok-read_value-in-Other-clause-reads
returns-in_ok-read_value-in-Other-clause-reads c =
    let v = c.in_ok-read_value-in-Other in
    (value_view v.field-0, v.ensures.value, v.ensures.fits, takes_none c.args.clients c.args.line.now c.args.key c.in-Other.is (tidy (value_view v.field-0)))
