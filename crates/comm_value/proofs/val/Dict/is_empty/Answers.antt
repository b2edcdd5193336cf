use Rattle.std.proofs.Common.{refl}
use Rattle.comm_value.proofs.Shared.{no_member_at}
use Rattle.comm_value.proofs.val.Dict.is_empty.Goals as goal

pub returns : goal.returns
returns c = no_member_at _ _ c.self.inside.len _ c.self.view_is c.self.invariant.2 refl
