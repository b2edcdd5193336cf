use Rattle.std.proofs.Common.{◌≡◌, ◌<◌, ◌∷◌, arith}
use Rattle.json.specs.Token.{begin_object}
use Rattle.comm_value.proofs.ReadingLemmas.{if_some}
use Rattle.comm_reader.specs.Reader.{IsVersion}
use Rattle.comm_reader.proofs.Walking.{entered}
use Rattle.comm_reader.proofs.heading.read_version.Goals as goal

pub returns-clause-reads : goal.returns-clause-reads
returns-clause-reads c =
    let begun : c.args.reader.now ≡ begin_object ∷ c.enter.new.reader = grind arith in
    if_some c.version_in.result _ _ (λ m r. entered c.args.depth c.args.reader.now c.enter.new.reader c.version_in.new.reader (IsVersion m) begun (omega arith) r) c.version_in.ensures.reads
