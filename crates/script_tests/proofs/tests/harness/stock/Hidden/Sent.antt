use denote.Exit
use denote.Param.Send.{arg_send}
use denote.Param.Sent.{Sends}
use Rattle.comm_targets.proofs.Sends.{echo_sends, counter_sends}
use Rattle.widget_target.proofs.Sends.{widget_sends}
use Rattle.script_tests.proofs.tests.harness.stock.Hides as own

pub sends-part-1-1 : Sends own.part-1-1
sends-part-1-1 i = arg_send _ Exit.no _ echo_sends

pub sends-part-1-2 : Sends own.part-1-2
sends-part-1-2 i = arg_send _ Exit.no _ counter_sends

pub sends-part-1-3 : Sends own.part-1-3
sends-part-1-3 i = arg_send _ Exit.no _ widget_sends
