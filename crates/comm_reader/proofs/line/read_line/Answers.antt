use Rattle.std.proofs.Common.{sym, ◌∙◌}
use Rattle.comm_reader.specs.Reader.{HasLine}
use Rattle.comm_reader.proofs.Walking.{whole_text}
use Rattle.comm_reader.proofs.line.read_line.Goals as goal

pub returns-clause-reads : goal.returns-clause-reads
returns-clause-reads c =
    let has = HasLine c.args.absent.now c.args.clients c.args.numbers c.read_members.new.line in
    whole_text c.args.line.now c.enter.new.reader c.read_members.new.reader has (sym c.in_ok-reader.ensures.tokens ∙ c.in_ok-enter.ensures) c.in_ok-read_members.ensures.reads c.in_ok-end.ensures
