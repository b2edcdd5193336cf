use Rattle.std.proofs.Common.{◌≡◌, Option, ap, ◌∙◌, subst}
use Rattle.std.specs.Prelude.{IfOk}
use Rattle.comm_core.specs.History.{replay}
use Rattle.comm_core.specs.Machine.{Machine, at}
use Rattle.comm_core.specs.Reads.{state_at}
use Rattle.comm_core.specs.declared.comm.Comm.{Comm}
use Rattle.comm_versions.specs.Known.{Known}
use Rattle.comm_shared.proofs.reader.state_in.Goals as goal

pub returns : goal.returns
returns c =
    let front : Known = c.args.version.now.front in
    let m : Machine = replay front.origin.limit front.entries in
    let consistent = c.replays_are_consistent.ensures _ _ _ c.len-legal.ensures.legal in
    let shown = c.deref.ensures ∙ c.args.version.now.kept.0 in
    let same = ap (λ l. at l c.args.id.now) shown ∙ c.comms_in_order_are_the_comms.ensures.same m c.args.id.now consistent.ids in
    subst (λ (o : Option Comm). IfOk c.state.result (λ a. a ≡ state_at o)) same c.state.ensures
