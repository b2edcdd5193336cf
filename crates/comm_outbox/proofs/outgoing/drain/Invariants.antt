use Rattle.std.proofs.Common.{◌≡◌, ◌++◌, ◌≤◌, length, true, vec_capacity}
use mathlib.Core.List.{IsPrefix}
use Rattle.crossbeam_queue.specs.Passes.{view, IsSamePass}
use Rattle.comm_outbox.specs.Sides.{entries_of}
use Rattle.comm_outbox.proofs.outgoing.drain.Given as goal

abbrev pub invariant-loop : goal.invariant-loop
invariant-loop g l = record {
  turns : l.counter ≤ l.fn.left;
  same : IsSamePass l.fn.pass l.pass;
  puts : (view l.pass).puts ≡ true;
  takes : (view l.pass).takes ≡ true;
  sent : (view l.pass).sent ≡ (view l.fn.pass).sent;
  got : (view l.pass).got ≡ (view l.fn.pass).got ++ entries_of l.rest.items;
  begins : IsPrefix (view l.pass).got (view l.pass).sent;
  taken : length l.rest.items ≡ l.counter;
  room : vec_capacity l.rest ≡ vec_capacity l.fn.into;
}
