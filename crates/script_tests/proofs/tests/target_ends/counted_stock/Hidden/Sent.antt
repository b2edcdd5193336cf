use denote.Exit
use denote.Param.Send.{IsSend, arg_send, sendable}
use denote.Param.SendFields.{declared_send}
use denote.Param.Sent.{Sends}
use Rattle.std.proofs.Crossing
use Rattle.comm_targets.proofs.Sends.{echo_sends}
use Rattle.script_tests.specs.contracts.tests.target_ends.EndCounter as end_counter
use Rattle.script_tests.proofs.tests.target_ends.counted_stock.Hides as own

end_counter_sends : IsSend end_counter.the_row
end_counter_sends = declared_send end_counter.the_type (
  search (echo_sends, sendable) depth 60 fits 20000,
  (search (Crossing.crosses, sendable) depth 60 fits 20000, tt),
)

pub sends-part-1-1 : Sends own.part-1-1
sends-part-1-1 i = arg_send _ Exit.no _ end_counter_sends
