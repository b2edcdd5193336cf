use Rattle.std.proofs.Common.{◌++◌, ◌∷◌, [], ap, sym, ◌∙◌, append_assoc}
use Rattle.comm_core.specs.Kept.{shown}
use Rattle.comm_core.specs.Runs.{Pair}
use Rattle.comm_core.proofs.Entries.{map-append}
use Rattle.comm_core.proofs.infos.infos_of.Goals as goal

pub loop-id-preserved : goal.loop-id-preserved
loop-id-preserved c =
    let done = c.loop-id.invariant.0 in
    let e : Pair = (c.in-Some.id, c.in-Some.target) in
    let left = c.next.new.self in (
      done ++ e ∷ [],
      c.loop-id.invariant.1 ∙ ap (λ es. done ++ es) c.in-Some.ensures.steps ∙ sym (append_assoc done (e ∷ []) left),
      c.in_ok-push.ensures.items ∙ ap (λ l. l ++ shown e ∷ []) c.loop-id.invariant.2 ∙ sym (map-append shown done (e ∷ [])),
    )
