use Rattle.std.proofs.Common.{◌≡◌, ◌-◌, ◌+◌, take, true≢false, sym, ap, ◌∙◌, arith}
use Rattle.std.proofs.lemmas.Slice.Eq.{bytes_eq-Decides}
use Rattle.json.specs.Value.{members_view}
use Rattle.json.specs.Json.{no_members}
use Rattle.comm_json.specs.Behind.{tidy_members, get_member}
use Rattle.comm_json.proofs.LookUp.{here, not_here}
use Rattle.comm_json.proofs.json_ref.last_of.Goals as goal

pub returns-then-eq : goal.returns-then-eq
returns-then-eq c =
    let l = c.loop-left in
    let ms = c.args.list.now.items in
    let next : l.left ≡ l.left - 1 + 1 = omega arith in
    sym (l.invariant.1 ∙ ap (λ n. get_member c.args.key.now (tidy_members (members_view (take n ms)) no_members)) next
    ∙ here ms (l.left - 1) c.index-member.result.now c.args.key.now (omega (arith, l.invariant.0)) c.index-member.ensures ((bytes_eq-Decides c.index-member.result.now.0.now c.args.key.now).0 (sym c.if-eq.ensures)))

pub loop-left-preserved : goal.loop-left-preserved
loop-left-preserved c =
    let l = c.loop-left in
    let ms = c.args.list.now.items in
    let next : l.left ≡ l.left - 1 + 1 = omega arith in (
      omega (arith, l.invariant.0),
      l.invariant.1 ∙ ap (λ n. get_member c.args.key.now (tidy_members (members_view (take n ms)) no_members)) next
          ∙ not_here ms (l.left - 1) c.index-member.result.now c.args.key.now (omega (arith, l.invariant.0)) c.index-member.ensures (λ same. true≢false (sym ((bytes_eq-Decides c.index-member.result.now.0.now c.args.key.now).1 same) ∙ sym c.if-eq.ensures)),
    )
