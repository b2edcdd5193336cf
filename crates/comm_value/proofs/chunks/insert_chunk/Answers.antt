use Rattle.std.proofs.Common.{◌/◌, ap, sym, ◌∙◌, arith}
use Rattle.std.specs.List.{insert as list_insert}
use Rattle.comm_value.specs.View.{grouped}
use Rattle.comm_value.proofs.Flat.{one_behind, two_behind, filled_let_in, filled_two, not_empty}
use Rattle.comm_value.proofs.chunks.insert_chunk.Goals as goal
use Rattle.comm_value.proofs.chunks.insert_chunk.Goals.{then-len-max_length+in_ok-tail+in_ok-new+in_ok-insert, else-len-max_length}

pub returns-clause-behind : goal.returns-clause-behind
returns-clause-behind c = elim c.if-len-max_length.branch [
  | then-len-max_length+in_ok-tail+in_ok-new+in_ok-insert w ↦
      two_behind c.args.chunks.items c.if-len-max_length.all.items _ c.args.place (w.len-then-len-max_length.result / 2) w.in_ok-new.field-0 c.in_ok-new-2.field-0 c.args.members.items c.requires.within
      (ap (λ v. v.items) w.all-is ∙ w.in_ok-insert.ensures.items) c.in_ok-insert-2.ensures.items (ap grouped w.in_ok-new.ensures.ok ∙ w.of.ensures ∙ w.in_ok-tail.ensures.tail)
      (ap grouped c.in_ok-new-2.ensures.ok ∙ c.of-2.ensures ∙ ap (λ v. v.items) w.head-is ∙ w.in_ok-tail.ensures.items)
  | else-len-max_length w ↦
      one_behind c.args.chunks.items _ c.args.place c.in_ok-new-2.field-0 c.args.members.items c.requires.within
      (c.in_ok-insert-2.ensures.items ∙ ap (λ v. list_insert v.items c.args.place c.in_ok-new-2.field-0) w.all-is) (ap grouped c.in_ok-new-2.ensures.ok ∙ c.of-2.ensures ∙ ap (λ v. v.items) w.head-is)
]

pub returns-clause-filled : goal.returns-clause-filled
returns-clause-filled c = elim c.if-len-max_length.branch [
  | then-len-max_length+in_ok-tail+in_ok-new+in_ok-insert w ↦
      filled_two c.args.chunks.items c.if-len-max_length.all.items _ c.args.place (w.len-then-len-max_length.result / 2) w.in_ok-new.field-0 c.in_ok-new-2.field-0 c.args.members.items
      (ap (λ v. v.items) w.all-is ∙ w.in_ok-insert.ensures.items) c.in_ok-insert-2.ensures.items (ap grouped w.in_ok-new.ensures.ok ∙ w.of.ensures ∙ w.in_ok-tail.ensures.tail)
      (ap grouped c.in_ok-new-2.ensures.ok ∙ c.of-2.ensures ∙ ap (λ v. v.items) w.head-is ∙ w.in_ok-tail.ensures.items)
      (omega (arith, w.if-len-max_length.true, w.len-then-len-max_length.ensures, c.len.ensures)) (omega (arith, w.if-len-max_length.true, w.len-then-len-max_length.ensures, c.len.ensures)) c.requires.filled
  | else-len-max_length w ↦
      filled_let_in c.args.chunks.items _ c.args.place c.in_ok-new-2.field-0 c.args.members.items (c.in_ok-insert-2.ensures.items ∙ ap (λ v. list_insert v.items c.args.place c.in_ok-new-2.field-0) w.all-is)
      (ap grouped c.in_ok-new-2.ensures.ok ∙ c.of-2.ensures ∙ ap (λ v. v.items) w.head-is) (not_empty c.args.members (sym c.if-is_empty.false ∙ c.is_empty.ensures)) c.requires.filled
]
