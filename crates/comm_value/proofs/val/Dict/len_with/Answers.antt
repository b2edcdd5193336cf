use Rattle.std.proofs.Common.{◌≡◌, true, length, sym, ap, ◌∙◌, arith}
use Rattle.comm_value.specs.Tree.{Members}
use Rattle.comm_value.specs.Order.{members_ordered}
use Rattle.comm_value.specs.View.{tree}
use Rattle.comm_value.specs.Node.{keys}
use Rattle.comm_value.proofs.Counts.{len_there, len_absent}
use Rattle.comm_value.proofs.Shared.{length-keys}
use Rattle.comm_value.proofs.val.Dict.len_with.Goals as goal

pub returns-in-Some : goal.returns-in-Some
returns-in-Some c = λ t.
    let all = c.args.self.now in
    let order : members_ordered all ≡ true = ap members_ordered (sym c.self.view_is) ∙ c.self.invariant.0 in
    c.self.invariant.2 ∙ (sym (length-keys _) ∙ (ap (λ (ms : Members). length (keys ms)) c.self.view_is
    ∙ sym (len_there c.args.key.now t (tree c.in-Some.field-0.now) all order (sym c.in-Some.ensures.value))))

pub returns-in-Some-checked_add : goal.returns-in-Some-checked_add
returns-in-Some-checked_add c = λ t.
    let all = c.args.self.now in
    let size : c.self.inside.len ≡ length (keys all) = c.self.invariant.2 ∙ (sym (length-keys _) ∙ ap (λ (ms : Members). length (keys ms)) c.self.view_is) in
    let more = len_absent c.args.key.now t all (sym c.in-None.ensures.value) in
    omega (arith, size, more, c.in-Some-checked_add.ensures)
