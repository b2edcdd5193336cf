-- What stands ready as values that give it back, by which a proof tells it apart.
use Rattle.std.specs.Prelude.{ℕ, Bool, List, Option, refl}
use Rattle.std.specs.Coded.{Coded, code_by, coded×, coded_ℕ, coded_bool, coded_list, coded_option, coded_result}
use Rattle.comm_messages.specs.declared.outgoing.Outgoing.{Outgoing}
use Rattle.comm_messages.specs.contracts.outgoing.Outgoing as outgoing
use Rattle.comm_targets.specs.Meaning.{Meaning}
use Rattle.comm_targets.specs.Code.{meaning_code}
use Rattle.comm_targets.specs.contracts.answer.Answer as answer
use Rattle.comm_targets.specs.contracts.fault.TargetFault as fault
use Rattle.comm_core.specs.contracts.comm.Comm as comm
use Rattle.comm_core.specs.declared.call.Call.{Call}
use Rattle.comm_core.specs.contracts.call.Call as call
use Rattle.comm_core.specs.declared.reply.Reply.{Reply}
use Rattle.comm_core.specs.contracts.reply.Reply as reply
use Rattle.comm_core.specs.declared.table_update.TableUpdate.{TableUpdate}
use Rattle.comm_core.specs.contracts.table_update.TableUpdate as table_update
use Rattle.comm_core.specs.Step.{Outcome}
use Rattle.comm_core.specs.Tables.{Targets, Opens}
use Rattle.comm_core.specs.Ready.{CoreValue, Readied, readied}

abbrev targets_code : Coded Targets
targets_code = coded_list (coded× (coded_list coded_ℕ) meaning_code)

abbrev opens_code : Coded Opens
opens_code = coded_list (coded× (coded_list coded_ℕ) comm.the_row.coded)

abbrev pub core_code : Coded CoreValue
core_code =
    code_by ((ℕ × Bool) × (Targets × Opens)) (coded× (coded× coded_ℕ coded_bool) (coded× targets_code opens_code))
    (λ s. ((s.limit, s.settled), (s.targets, s.comms)))
    (λ p. record { limit = p.0.0; targets = p.1.0; comms = p.1.1; settled = p.0.1 }) (λ _. refl)

abbrev pub outcome_code : Coded (Option Outcome)
outcome_code = coded_option (coded_result answer.the_row.coded fault.the_row.coded)

abbrev pub readied_code : Coded Readied
readied_code =
    code_by ((Call × Option Outcome) × ((Reply × List Outgoing) × (TableUpdate × Option Meaning)))
    (coded× (coded× call.the_row.coded (coded_option (coded_result answer.the_row.coded fault.the_row.coded)))
    (coded× (coded× reply.the_row.coded (coded_list outgoing.the_row.coded))
    (coded× table_update.the_row.coded (coded_option meaning_code))))
    (λ r. ((r.call, r.outcome), ((r.reply, r.outgoing), (r.table_update, r.registered))))
    (λ p. readied p.0.0 p.0.1 p.1.0.0 p.1.0.1 p.1.1.0 p.1.1.1) (λ _. refl)
