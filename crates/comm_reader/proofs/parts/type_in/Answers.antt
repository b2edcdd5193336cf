use Rattle.std.proofs.Common.{subst}
use Rattle.serde_json.specs.Read.{max_depth}
use Rattle.comm_reader.specs.Reader.{IsType, ReadsObject}
use Rattle.comm_reader.proofs.Walking.{whole_value, whole_line}
use Rattle.comm_reader.proofs.parts.type_in.Goals as goal

pub returns : goal.returns
returns c =
    let has = IsType c.in_ok-type_.type_ in
    let read = subst (λ ts. ReadsObject max_depth ts has c.read_type.new.reader) c.in_ok-reader.ensures.tokens c.in_ok-type_.ensures.reads in
    whole_line c.args.bytes.now has c.in_ok-reader.ensures.utf8 (whole_value c.args.bytes.now c.read_type.new.reader has read c.in_ok-end.ensures)
