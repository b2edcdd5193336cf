use Rattle.comm_messages.proofs.ToldText.{before_update, before_echo}
use Rattle.comm_messages.proofs.outgoing_body.before_state.Goals as goal

pub returns-in-Update : goal.returns-in-Update
returns-in-Update c = before_update _ c.in-Update.is

pub returns-in-EchoUpdate : goal.returns-in-EchoUpdate
returns-in-EchoUpdate c = before_echo _ c.in-EchoUpdate.is
