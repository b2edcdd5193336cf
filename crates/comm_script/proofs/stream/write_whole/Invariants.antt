use Rattle.comm_script.proofs.Streaming.{Writes}
use Rattle.comm_script.proofs.stream.write_whole.Given as goal

abbrev pub invariant-loop : goal.invariant-loop
invariant-loop g l = Writes (g.W.Write.contents l.initial.writer) (g.W.Write.contents l.writer) l.text l.rest
