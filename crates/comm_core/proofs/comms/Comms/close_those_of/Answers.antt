use Rattle.std.proofs.Common.{◌≡◌, ◌<◌, ap, sym, ◌∙◌, true, false, arith, length}
use Rattle.std.specs.Str.{bytes_eq}
use Rattle.comm_targets.specs.Meaning.{Meaning}
use Rattle.comm_core.specs.Machine.{ids_of}
use Rattle.comm_core.specs.Tables.{Opens}
use Rattle.ordered_table.proofs.Walking.{ahead_entry, ahead_gap}
use Rattle.comm_core.proofs.Closing.{first_is, one_less, none_less}
use Rattle.comm_core.proofs.comms.Comms.close_those_of.Goals as goal
use Rattle.comm_core.proofs.comms.Comms.close_those_of.Goals.{in-Some+then-eq, in-Some+else-eq, in_default}

pub close-requires-clause-opened : goal.close-requires-clause-opened
close-requires-clause-opened g c κs within =
    let step = ahead_entry c.self.inside.all.places c.loop-i.i c.in-Some.id.now c.in-Some.comm.now c.in-Some.ensures.entry in
    let its : bytes_eq c.args.name.now c.in-Some.comm.now.target ≡ true = sym c.eq.ensures ∙ c.if-eq.true in
    first_is c.args.name.now (c.in-Some.id.now, c.in-Some.comm.now) _ _ step its _ _ (ap (λ (m : Meaning). m.ids) c.loop-i.invariant) c.as_str.ensures

pub loop-i-preserved : goal.loop-i-preserved
loop-i-preserved g c =
    elim c.match-at.branch [
      | in-Some+then-eq w ↦
          let step = ahead_entry c.self.inside.all.places c.loop-i.i w.in-Some.id.now w.in-Some.comm.now w.in-Some.ensures.entry in
          let its : bytes_eq c.args.name.now w.in-Some.comm.now.target ≡ true = sym w.eq.ensures ∙ w.if-eq.true in
          w.held-is ∙ w.close.ensures
          ∙ one_less c.args.name.now (w.in-Some.id.now, w.in-Some.comm.now) _ _ step its _ _ c.args.held.now c.loop-i.invariant w.as_str.ensures
      | in-Some+else-eq w ↦
          let step = ahead_entry c.self.inside.all.places c.loop-i.i w.in-Some.id.now w.in-Some.comm.now w.in-Some.ensures.entry in
          let other : bytes_eq c.args.name.now w.in-Some.comm.now.target ≡ false = sym w.eq.ensures ∙ w.if-eq.false in
          w.held-is ∙ none_less c.args.name.now (w.in-Some.id.now, w.in-Some.comm.now) _ _ step other _ c.args.held.now c.loop-i.invariant
      | in_default w ↦
          let within : c.loop-i.i < length c.self.inside.all.places = grind (arith, c.loop-i-test.true, c.places-i-end.ensures) in
          let gap = w.in_default.ensures.gap within in
          let left : Opens → Meaning = λ l. record { kind = c.args.held.now.kind; notes = c.args.held.now.notes; ids = ids_of c.args.name.now l; staged = c.args.held.now.staged } in
          w.held-is ∙ c.loop-i.invariant ∙ ap left (ahead_gap c.self.inside.all.places c.loop-i.i gap.0 gap.1)
    ]
