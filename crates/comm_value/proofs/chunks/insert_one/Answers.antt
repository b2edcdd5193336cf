use Rattle.std.proofs.Common.{[], ◌∷◌, ap, arith}
use Rattle.comm_value.specs.View.{grouped}
use Rattle.comm_value.proofs.Flat.{one_behind, filled_let_in}
use Rattle.comm_value.proofs.chunks.insert_one.Goals as goal

pub returns-clause-behind : goal.returns-clause-behind
returns-clause-behind c = one_behind c.args.chunks.items _ c.args.place c.in_ok-new.field-0 (c.args.member ∷ []) c.requires.within c.in_ok-insert.ensures.items (ap grouped c.in_ok-new.ensures.ok)

pub returns-clause-filled : goal.returns-clause-filled
returns-clause-filled c = filled_let_in c.args.chunks.items _ c.args.place c.in_ok-new.field-0 (c.args.member ∷ []) c.in_ok-insert.ensures.items (ap grouped c.in_ok-new.ensures.ok) (omega arith) c.requires.filled
