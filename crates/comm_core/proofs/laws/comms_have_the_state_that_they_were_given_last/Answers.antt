use Rattle.comm_core.proofs.Updating.{given_last, none_given}
use Rattle.comm_core.proofs.laws.comms_have_the_state_that_they_were_given_last.Goals as goal

pub returns : goal.returns
returns c = record {
  given = λ clients limit h p before opener after id target since. given_last clients limit h before opener after id target p since;
  other = λ clients limit h p id none. none_given clients limit h id p none;
}
