use Rattle.std.proofs.Common.{ap, ◌∙◌, sym, length}
use Rattle.comm_value.specs.Tree.{Members}
use Rattle.comm_value.specs.Node.{keys}
use Rattle.comm_value.proofs.Shared.{length-keys}
use Rattle.comm_value.proofs.val.Dict.len.Goals as goal

pub returns : goal.returns
returns c = c.self.invariant.2 ∙ sym (length-keys _) ∙ ap (λ (ms : Members). length (keys ms)) c.self.view_is
