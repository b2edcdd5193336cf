use Rattle.std.proofs.Common.{◌/◌, ap, sym, ◌∙◌, arith}
use Rattle.std.specs.List.{insert as list_insert}
use Rattle.comm_versions.proofs.Around.{empty_items}
use Rattle.comm_versions.proofs.Flat.{none_set, one_set, two_set, filled_rest, filled_let_in, filled_two, not_empty}
use Rattle.comm_versions.proofs.chunks.set_chunk.Goals as goal
use Rattle.comm_versions.proofs.chunks.set_chunk.Goals.{then-len-most+in_ok-tail+in_ok-new+in_ok-insert, else-len-most}

pub returns-then-is_empty-clause-comms_in : goal.returns-then-is_empty-clause-comms_in
returns-then-is_empty-clause-comms_in c =
    none_set c.args.chunks.now.items c.remove.new.self.items c.args.place c.args.comms.items c.requires.within c.remove.ensures.items (empty_items c.args.comms (sym c.if-is_empty.true ∙ c.is_empty.ensures))

pub returns-then-is_empty-clause-filled : goal.returns-then-is_empty-clause-filled
returns-then-is_empty-clause-filled c = filled_rest c.args.chunks.now.items _ c.args.place c.remove.ensures.items c.requires.filled

pub returns-clause-comms_in : goal.returns-clause-comms_in
returns-clause-comms_in c = elim c.if-len-most.branch [
  | then-len-most+in_ok-tail+in_ok-new+in_ok-insert w ↦
      two_set c.args.chunks.now.items c.remove.new.self.items c.if-len-most.chunks.items _ c.args.place (w.len-then-len-most.result / 2) w.in_ok-new.field-0 c.in_ok-new-2.field-0 c.args.comms.items c.requires.within c.remove.ensures.items
      (ap (λ v. v.items) w.chunks-is ∙ w.in_ok-insert.ensures.items) c.in_ok-insert-2.ensures.items (ap (λ v. v.items) w.in_ok-new.ensures.ok ∙ w.in_ok-tail.ensures.tail)
      (ap (λ v. v.items) (c.in_ok-new-2.ensures.ok ∙ w.head-is) ∙ w.in_ok-tail.ensures.items)
  | else-len-most w ↦
      one_set c.args.chunks.now.items c.remove.new.self.items _ c.args.place c.in_ok-new-2.field-0 c.args.comms.items c.requires.within c.remove.ensures.items
      (c.in_ok-insert-2.ensures.items ∙ ap (λ v. list_insert v.items c.args.place c.in_ok-new-2.field-0) w.chunks-is) (ap (λ v. v.items) (c.in_ok-new-2.ensures.ok ∙ w.head-is))
]

pub returns-clause-filled : goal.returns-clause-filled
returns-clause-filled c =
    let filled = filled_rest c.args.chunks.now.items _ c.args.place c.remove.ensures.items c.requires.filled in
    elim c.if-len-most.branch [
      | then-len-most+in_ok-tail+in_ok-new+in_ok-insert w ↦
          filled_two c.remove.new.self.items c.if-len-most.chunks.items _ c.args.place (w.len-then-len-most.result / 2) w.in_ok-new.field-0 c.in_ok-new-2.field-0 c.args.comms.items
          (ap (λ v. v.items) w.chunks-is ∙ w.in_ok-insert.ensures.items) c.in_ok-insert-2.ensures.items (ap (λ v. v.items) w.in_ok-new.ensures.ok ∙ w.in_ok-tail.ensures.tail)
          (ap (λ v. v.items) (c.in_ok-new-2.ensures.ok ∙ w.head-is) ∙ w.in_ok-tail.ensures.items)
          (omega (arith, w.if-len-most.true, w.len-then-len-most.ensures, c.len-2.ensures, c.longest-most.ensures)) (omega (arith, w.if-len-most.true, w.len-then-len-most.ensures, c.len-2.ensures, c.longest-most.ensures)) filled
      | else-len-most w ↦
          filled_let_in c.remove.new.self.items _ c.args.place c.in_ok-new-2.field-0 c.args.comms.items (c.in_ok-insert-2.ensures.items ∙ ap (λ v. list_insert v.items c.args.place c.in_ok-new-2.field-0) w.chunks-is)
          (ap (λ v. v.items) (c.in_ok-new-2.ensures.ok ∙ w.head-is)) (not_empty c.args.comms (sym c.if-is_empty.false ∙ c.is_empty.ensures)) filled
    ]
