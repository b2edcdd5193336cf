-- A target whose comms have the data that came last as their state.
use Rattle.comm_targets.specs.Widget.{nothing, new_state}
use Rattle.comm_targets.specs.declared.event.Event.{Event}
use Rattle.comm_targets.specs.declared.event.Event.TheVariants.{Open, Msg}
use Rattle.comm_targets.specs.declared.answer.Answer.{Answer}

abbrev pub latest_of : Event → Answer
latest_of (Open id version body) = new_state body.content
latest_of (Msg id body) = new_state body.content
latest_of e = nothing
