use Rattle.std.proofs.Common.{length}
use Rattle.comm_script.proofs.Playing.{Plays}
use Rattle.comm_script.proofs.stream.play_chunk.Given as goal

abbrev pub invariant-loop-line : goal.invariant-loop-line
invariant-loop-line g l =
    Plays l.numbers g.B.Backend.stands (g.B.Backend.is_sound l.clients) g.B.Backend.change_count l.initial.backend l.initial.n l.initial.pending.items l.chunk l.initial.text.items l.backend l.n l.pending.items l.rest l.text.items

abbrev pub decreases-loop-line : goal.decreases-loop-line
decreases-loop-line g l = length l.rest
