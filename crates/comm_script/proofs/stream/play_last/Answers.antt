use Rattle.std.proofs.Common.{sym, ◌∙◌}
use Rattle.comm_script.proofs.Playing.{says_last}
use Rattle.comm_script.proofs.stream.play_last.Goals as goal

pub returns-clause-says : goal.returns-clause-says
returns-clause-says g c = λ limits stock input written before.
    says_last c.args.numbers g.B.Backend.stands limits stock input c.args.backend.now c.play_line.new.backend c.args.number c.args.pending.now written c.args.text.now.items c.play_line.new.text.items c.requires.one_line
    (sym c.is_empty.ensures ∙ c.if-is_empty.false) before (c.in_ok-play_line.ensures.text limits) (c.in_ok-play_line.ensures.turn limits)
