use Rattle.std.proofs.Common.{Some, ap, sym, ◌∙◌, option_map}
use Rattle.comm_targets.specs.Meaning.{Meaning}
use Rattle.comm_core.specs.Machine.{Registered}
use Rattle.comm_core.specs.Tables.{Table, registered_of}
use Rattle.comm_core.proofs.Boxed.{held, absent}
use Rattle.comm_core.proofs.Names.{target_at}
use Rattle.comm_core.proofs.target_table.TargetTable.kind_of.Goals as goal

pub returns-in-Some : goal.returns-in-Some
returns-in-Some g c =
    let all = ap (λ (t : Table Meaning). t.all) c.self.view_is in
    ap Some c.kind.ensures
    ∙ sym (ap (option_map (λ (r : Registered). r.kind)) (target_at c.args.self.now.all c.args.name.now
    ∙ ap (option_map registered_of) (held (λ n. n.name) (λ n. n.held) c.self.inside.all.items _ _ all _ c.in-Some.i c.index.result.now c.place_of.ensures c.in-Some.is c.index.ensures)))

pub returns-in-None : goal.returns-in-None
returns-in-None g c =
    let all = ap (λ (t : Table Meaning). t.all) c.self.view_is in
    sym (ap (option_map (λ (r : Registered). r.kind)) (target_at c.args.self.now.all c.args.name.now
    ∙ ap (option_map registered_of) (absent (λ n. n.name) (λ n. n.held) c.self.inside.all.items _ _ all _ c.place_of.ensures c.in-None.is).0))
