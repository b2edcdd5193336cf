use Rattle.std.proofs.Common.{None, subst, sym}
use Rattle.comm_c.specs.ClientState.{ClientState}
use Rattle.comm_c.specs.Clients.{ReadsInfos}
use Rattle.comm_c.proofs.ClientRead.{read_so}
use Rattle.comm_c.proofs.client_read_api.rolgunai_client_infos.Goals as goal

pub returns-after-status-eq-OK-clause-read : goal.returns-after-status-eq-OK-clause-read
returns-after-status-eq-OK-clause-read c e =
    let reads = subst (λ (k : ClientState). ReadsInfos c.args.since None k c.read_infos-status.new.client) c.deref_mut.ensures.value (c.read_infos-status.ensures.reads e) in
    read_so (ReadsInfos c.args.since None) _ _ _ _ (sym c.in-Some.ensures.taken) c.put_client.ensures reads
