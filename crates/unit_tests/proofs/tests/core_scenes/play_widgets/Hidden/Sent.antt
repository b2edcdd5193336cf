use denote.Exit
use denote.Param.Send.{arg_send}
use denote.Param.Sent.{Sends}
use Rattle.widget_target.proofs.Sends.{widget_sends}
use Rattle.unit_tests.proofs.tests.core_scenes.play_widgets.OwnLists as own

pub sends-part-1-1 : Sends own.part-1-1
sends-part-1-1 i = arg_send _ Exit.no _ widget_sends
