use Rattle.std.proofs.Common.{List, sym, subst}
use Rattle.comm_messages.specs.Listed.{IdsAreInOrder}
use Rattle.comm_messages.specs.declared.infos.Info.{Info}
use Rattle.comm_c.proofs.InOrder.{none_in_order}
use Rattle.comm_c.proofs.executing.one_reply.Goals as goal

pub new-requires-2 : goal.new-requires-2
new-requires-2 c = subst (λ (l : List Info). IdsAreInOrder l) (sym c.new.ensures.items) none_in_order
