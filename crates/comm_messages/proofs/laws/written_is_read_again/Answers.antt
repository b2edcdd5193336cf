use Rattle.comm_messages.proofs.ReadAgain.{object_says_message, text_is_its_object, text_is_read_again}
use Rattle.comm_messages.proofs.laws.written_is_read_again.Goals as goal

pub returns : goal.returns
returns c = record { object = object_says_message; json = text_is_its_object; text = text_is_read_again }
