use Rattle.std.proofs.Common.{refl}
use Rattle.comm_versions.proofs.Made.{made_stays}
use Rattle.comm_manager.proofs.client.Client.comm_info.Goals as goal

pub invariant_of-self : goal.invariant_of-self
invariant_of-self g c =
    let i = c.self.inside in
    (c.self.invariant.0, (made_stays i.seq.client i.seq.number i.reader c.read_infos.new.self c.self.invariant.1 c.read_infos.ensures.later).0)

pub returns-clause-made : goal.returns-clause-made
returns-clause-made g c =
    let i = c.self.inside in
    rw (← c.self.view_is) (refl, refl, (made_stays i.seq.client i.seq.number i.reader c.read_infos.new.self c.self.invariant.1 c.read_infos.ensures.later).1)
