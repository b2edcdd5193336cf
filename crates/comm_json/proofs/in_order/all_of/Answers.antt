use Rattle.std.proofs.Common.{◌≡◌, ◌∷◌, [], ◌++◌, sym, ap, ◌∙◌, subst, append_assoc, refl}
use Rattle.comm_json.proofs.MemberOrder.{Owned, AreOwned, one_more_owned, all_owned, all_owned_in_order}
use Rattle.comm_json.proofs.in_order.all_of.Goals as goal

pub loop-key-preserved : goal.loop-key-preserved
loop-key-preserved c =
    let l = c.loop-key in
    let done = l.invariant.0 in
    let x : Owned = (c.in-Some.key.now, c.in-Some.value.now) in
    let left = c.next.new.self in
    let all : c.args.map.now.entries ≡ done ++ x ∷ left = l.invariant.1 ∙ ap (λ es. done ++ es) c.in-Some.ensures.steps in (
      done ++ x ∷ [],
      all ∙ sym (append_assoc done (x ∷ []) left),
      subst (λ es. AreOwned es (done ++ x ∷ [])) (sym c.in_ok-push.ensures.items) (one_more_owned l.all.items done _ x l.invariant.2 c.as_str.ensures.value refl),
    )

pub returns-clause-all : goal.returns-clause-all
returns-clause-all c = all_owned _ c.loop-key.invariant.0 _ c.loop-key.all.items c.loop-key.invariant.1 c.in-None.ensures.steps.0 c.loop-key.invariant.2

pub returns-clause-ordered : goal.returns-clause-ordered
returns-clause-ordered c = all_owned_in_order _ c.loop-key.invariant.0 _ c.loop-key.all.items c.loop-key.invariant.1 c.in-None.ensures.steps.0 c.iter-key-items.ensures.ordered c.loop-key.invariant.2
