use Rattle.std.proofs.Common.{ap, ◌∙◌, filter, option_map}
use Rattle.std.proofs.lemmas.Result.{IfOk-weaker}
use Rattle.comm_messages.specs.declared.infos.Info.{Info}
use Rattle.comm_core.specs.Reads.{infos, passes}
use Rattle.comm_core.specs.Ready.{CoreValue, machine}
use Rattle.comm_core.proofs.Kept.{part_of_listing}
use Rattle.comm_core.proofs.manager.Core.infos.Goals as goal

pub returns : goal.returns
returns g c =
    let asked = option_map (λ t. t.now) c.args.target in
    let is = ap (filter (λ (i : Info). passes asked i.target)) c.in_ok-whole.ensures ∙ part_of_listing asked c.self.inside.comms.all ∙ ap (λ (s : CoreValue). infos (machine s) asked) c.self.view_is in
    IfOk-weaker c.part_of.result _ _ (λ v h. h ∙ is) c.part_of.ensures
