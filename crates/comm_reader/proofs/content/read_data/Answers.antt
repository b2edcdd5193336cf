use Rattle.std.proofs.Common.{◌≡◌, ◌<◌, ◌∷◌, arith}
use Rattle.json.specs.Token.{begin_object}
use Rattle.comm_value.proofs.ReadingLemmas.{if_some}
use Rattle.comm_reader.specs.Reader.{IsData}
use Rattle.comm_reader.proofs.Walking.{entered}
use Rattle.comm_reader.proofs.content.read_data.Goals as goal

pub returns-clause-reads : goal.returns-clause-reads
returns-clause-reads c =
    let begun : c.args.reader.now ≡ begin_object ∷ c.enter.new.reader = grind arith in
    if_some c.read.result _ _ (λ d r. entered c.args.depth c.args.reader.now c.enter.new.reader c.read.new.reader (IsData c.args.numbers d) begun (omega arith) r) c.read.ensures.reads
