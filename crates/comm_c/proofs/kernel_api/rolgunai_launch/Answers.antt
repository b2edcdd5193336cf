use Rattle.std.proofs.Common.{◌≡◌, ◌∙◌, Some, ap, sym}
use Rattle.comm_c.specs.ManagerState.{ManagerState}
use Rattle.comm_c.proofs.kernel_api.rolgunai_launch.Goals as goal

pub returns-in-Some : goal.returns-in-Some
returns-in-Some c =
    let here : c.in-Some.manager.value ≡ c.launch-input.new.self = sym (c.launch-input.ensures.same ∙ c.deref_mut.ensures.value) in
    c.answer.ensures _ _ (sym c.in-Some.ensures.taken ∙ ap (λ (k : ManagerState). Some k) here) c.launch-input.ensures.input

pub returns-in-None : goal.returns-in-None
returns-in-None c = c.without_manager.ensures _ _ _ (sym c.in-None.ensures.taken) c.in-None.ensures.none
