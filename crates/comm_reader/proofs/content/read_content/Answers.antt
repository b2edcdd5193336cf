use Rattle.std.proofs.Common.{◌≡◌, ◌<◌, ◌∷◌, arith}
use Rattle.json.specs.Token.{begin_object}
use Rattle.comm_reader.specs.Reader.{HasContent}
use Rattle.comm_reader.proofs.Walking.{entered, for_some, on_some}
use Rattle.comm_reader.proofs.content.read_content.Goals as goal

pub returns-clause-reads : goal.returns-clause-reads
returns-clause-reads c =
    let begun : c.args.reader.now ≡ begin_object ∷ c.enter.new.reader = grind arith in
    on_some c.read_members.result _ _ (λ r. for_some c.read_members.new.content _ _ (λ m r. entered c.args.depth c.args.reader.now c.enter.new.reader c.read_members.new.reader (HasContent c.args.numbers m) begun (omega arith) r) r) c.read_members.ensures.reads
