use Rattle.std.proofs.Common.{◌≡◌, ◌*◌, ◌≤◌, List, [], false}
use Rattle.std.specs.Prelude.{IfSome}
use Rattle.comm_core.specs.declared.limits.Limits.{Limits}
use Rattle.comm_core.specs.Machine.{Registered}
use Rattle.comm_script.specs.Lines.{has_line_feed}
use Rattle.comm_script.proofs.Streaming.{Streams, Loses, Grows}
use Rattle.comm_script.proofs.stream.play_script.Given as goal

abbrev pub invariant-loop : goal.invariant-loop
invariant-loop g l = record {
  room : l.number ≤ 16384 * l.counter;
  within : g.B.Backend.change_count l.backend ≤ l.number;
  kept : g.B.Backend.is_sound l.clients l.backend;
  one_line : has_line_feed l.pending.items ≡ false;
  empty : l.text.items ≡ [];
  left : Loses (g.R.Read.remaining l.initial.reader) (g.R.Read.remaining l.reader);
  grown : Grows (g.W.Write.contents l.initial.writer) (g.W.Write.contents l.writer);
  streams : (limits : Limits) (stock : List Registered) → g.B.Backend.stands limits (record { history = []; stock = stock }) l.initial.backend
      → IfSome (g.R.Read.remaining l.initial.reader) (λ input. Streams l.numbers g.B.Backend.stands limits stock input (g.W.Write.contents l.initial.writer) (g.W.Write.contents l.writer) (g.R.Read.remaining l.reader) l.backend l.number l.pending.items);
}
