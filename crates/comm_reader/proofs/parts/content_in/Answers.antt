use Rattle.std.proofs.Common.{subst, sym}
use Rattle.std.specs.Prelude.{IfSome}
use Rattle.serde_json.specs.Read.{max_depth}
use Rattle.comm_reader.specs.Reader.{HasContent, ReadsLine, ReadsObject}
use Rattle.comm_reader.specs.declared.content.Content.{Content}
use Rattle.comm_reader.proofs.Walking.{there, whole_value, whole_line}
use Rattle.comm_reader.proofs.parts.content_in.Goals as goal

pub returns-clause-reads : goal.returns-clause-reads
returns-clause-reads c =
    let put = there c.read_content.new.content _ c.in_ok-read_content.ensures.reads in
    let has = HasContent c.args.numbers put.0 in
    let read = subst (λ ts. ReadsObject max_depth ts has c.read_content.new.reader) c.in_ok-reader.ensures.tokens put.2 in
    subst (λ o. IfSome o (λ (d : Content). ReadsLine c.args.bytes.now (HasContent c.args.numbers d))) (sym put.1)
    (whole_line c.args.bytes.now has c.in_ok-reader.ensures.utf8 (whole_value c.args.bytes.now c.read_content.new.reader has read c.in_ok-end.ensures))
