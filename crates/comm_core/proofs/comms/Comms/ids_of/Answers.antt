use Rattle.std.proofs.Common.{◌≡◌, ◌<◌, ap, sym, ◌∙◌, true, false, arith, length}
use Rattle.std.specs.Str.{bytes_eq}
use Rattle.comm_core.specs.Machine.{ids_of}
use Rattle.ordered_table.proofs.Walking.{walked_entry, walked_gap}
use Rattle.comm_core.proofs.Closing.{one_more, none_more}
use Rattle.comm_core.proofs.comms.Comms.ids_of.Goals as goal
use Rattle.comm_core.proofs.comms.Comms.ids_of.Goals.{in-Some+then-eq+in_ok-copy+in_ok-push, in-Some+else-eq, in_default}

pub loop-i-preserved : goal.loop-i-preserved
loop-i-preserved c =
    elim c.match-at.branch [
      | in-Some+then-eq+in_ok-copy+in_ok-push w ↦
          let step = walked_entry c.self.inside.all.places c.loop-i.i w.in-Some.id.now w.in-Some.comm.now w.in-Some.ensures.entry in
          let its : bytes_eq c.args.name.now w.in-Some.comm.now.target ≡ true = sym w.eq.ensures ∙ w.if-eq.true in
          w.ids-is ∙ w.in_ok-push.ensures.ok
          ∙ one_more c.args.name.now (w.in-Some.id.now, w.in-Some.comm.now) _ _ step its _ _ c.loop-i.invariant w.in_ok-copy.ensures
      | in-Some+else-eq w ↦
          let step = walked_entry c.self.inside.all.places c.loop-i.i w.in-Some.id.now w.in-Some.comm.now w.in-Some.ensures.entry in
          let other : bytes_eq c.args.name.now w.in-Some.comm.now.target ≡ false = sym w.eq.ensures ∙ w.if-eq.false in
          w.ids-is ∙ none_more c.args.name.now (w.in-Some.id.now, w.in-Some.comm.now) _ _ step other _ c.loop-i.invariant
      | in_default w ↦
          let within : c.loop-i.i < length c.self.inside.all.places = grind (arith, c.loop-i-test.true, c.places-i-end.ensures) in
          let gap = w.in_default.ensures.gap within in
          w.ids-is ∙ c.loop-i.invariant ∙ sym (ap (ids_of c.args.name.now) (walked_gap c.self.inside.all.places c.loop-i.i gap.0 gap.1))
    ]
