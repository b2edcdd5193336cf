-- The row of a change that stands ready, by its update of the table; for private clauses.
use Rattle.std.specs.Prelude.{Option, Some, Ok}
use Rattle.comm_targets.specs.declared.event.Event.{Event}
use Rattle.comm_targets.specs.declared.event.Event.TheVariants as event
use Rattle.comm_targets.specs.declared.answer.Answer.{Answer}
use Rattle.comm_core.specs.Machine.{Name}
use Rattle.comm_core.specs.Step.{Outcome}
use Rattle.comm_core.specs.Row.{put_row, stated_row, closed_row, ended_row}
use Rattle.comm_core.specs.declared.call.Call.{Call}
use Rattle.comm_core.specs.declared.call.Call.TheVariants.{Register, Close, Unregister, HangUp}
use Rattle.comm_core.specs.declared.reply.Reply.{Reply}
use Rattle.comm_core.specs.declared.table_update.TableUpdate.{TableUpdate}
use Rattle.comm_core.specs.declared.table_update.TableUpdate.TheVariants.{Commit}
use Rattle.comm_core.specs.declared.row.Row.{Row}
use Rattle.comm_core.specs.declared.row.Row.TheVariants.{Same}

-- what an answer changes, of a target that was asked this
abbrev pub answered_row : Name → Event → Answer → Row
answered_row target (event.Open id version body) a = put_row id target a.state
answered_row target (event.Msg id body) a = stated_row id target a.state
answered_row target (event.Launch id state) a = put_row id target a.state
answered_row target (event.Push id state) a = stated_row id target a.state

-- what a call changes that asks no target
abbrev pub done_row : Call → Reply → Row
done_row (Close id) r = closed_row id r
done_row (HangUp id) r = closed_row id r
done_row (Unregister name) r = ended_row r
done_row (Register name kind notes) r = ended_row r
done_row call r = Same

abbrev pub updated_row : TableUpdate → Option Outcome → Call → Reply → Row
updated_row (Commit q) (Some (Ok a)) call r = answered_row q.name q.event a
updated_row table_update o call r = done_row call r
