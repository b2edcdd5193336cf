use denote.Exit
use denote.Param.Send.{arg_send}
use denote.Param.Sent.{Sends}
use Rattle.widget_target.proofs.Sends.{widget_sends}
use Rattle.load_generator.proofs.main.OwnLists as own

pub sends-part-1-1 : Sends own.part-1-1
sends-part-1-1 i = arg_send _ Exit.no _ widget_sends
