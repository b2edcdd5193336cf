use denote.Exit
use denote.Param.Send.{arg_send}
use denote.Param.Sent.{Sends}
use Rattle.comm_targets.proofs.Sends.{counter_sends}
use Rattle.interleaving_tests.proofs.tests.one_history.play_counters.OwnLists as own

pub sends-part-1-1 : Sends own.part-1-1
sends-part-1-1 i = arg_send _ Exit.no _ counter_sends
