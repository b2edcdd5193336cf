use Rattle.std.proofs.Common.{◌<◌, [], ap, sym, ◌∙◌, arith, length}
use Rattle.ordered_table.proofs.Walking.{walked_entry, walked_gap}
use Rattle.comm_core.specs.Kept.{pairs_of}
use Rattle.comm_core.specs.Reads.{in_order}
use Rattle.comm_core.specs.Tables.{Opens}
use Rattle.comm_core.proofs.Closing.{listed_one}
use Rattle.comm_core.proofs.comms.Comms.in_order.Goals as goal
use Rattle.comm_core.proofs.comms.Comms.in_order.Goals.{in-Some+in_ok-copy+in_ok-copy-2+in_ok-insert+in-Some-1, in-Some+in_ok-copy+in_ok-copy-2+in_ok-insert+in-None-1, in_default}

pub loop-i-preserved : goal.loop-i-preserved
loop-i-preserved c =
    elim c.match-at.branch [
      | in-Some+in_ok-copy+in_ok-copy-2+in_ok-insert+in-Some-1 w ↦
          let step = walked_entry c.self.inside.all.places c.loop-i.i w.in-Some.id.now w.in-Some.comm.now w.in-Some.ensures.entry in
          rw (w.all-is, w.in_ok-insert.ensures.entries)
          (listed_one [] (w.in-Some.id.now, w.in-Some.comm.now) _ _ step _ _ _ c.loop-i.invariant w.in_ok-copy.ensures w.in_ok-copy-2.ensures)
      | in-Some+in_ok-copy+in_ok-copy-2+in_ok-insert+in-None-1 w ↦
          let step = walked_entry c.self.inside.all.places c.loop-i.i w.in-Some.id.now w.in-Some.comm.now w.in-Some.ensures.entry in
          rw (w.all-is, w.in_ok-insert.ensures.entries)
          (listed_one [] (w.in-Some.id.now, w.in-Some.comm.now) _ _ step _ _ _ c.loop-i.invariant w.in_ok-copy.ensures w.in_ok-copy-2.ensures)
      | in_default w ↦
          let within : c.loop-i.i < length c.self.inside.all.places = grind (arith, c.loop-i-test.true, c.places-i-end.ensures) in
          let gap = w.in_default.ensures.gap within in
          rw w.all-is (c.loop-i.invariant ∙ sym (ap (λ (l : Opens). in_order (pairs_of l)) (walked_gap c.self.inside.all.places c.loop-i.i gap.0 gap.1)))
    ]
