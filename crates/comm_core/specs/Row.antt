-- What readers see of a manager's comms, and what an entry changes in it.
use Rattle.std.specs.Prelude.{List, [], ◌∷◌, Option, Some, None, Ok}
use Rattle.std.specs.Ordering.{nat_cmp}
use Rattle.std.specs.BTreeMap.{insert_entry}
use Rattle.std.specs.Cmp.Lexicographic.{slice_cmp}
use Rattle.comm_value.specs.Tree.{Members}
use Rattle.comm_core.specs.Machine.{Name, Machine, at, without}
use Rattle.comm_core.specs.Step.{Outcome, comm_id}
use Rattle.comm_core.specs.Reads.{in_order}
use Rattle.comm_core.specs.Tables.{Opens}
use Rattle.comm_core.specs.declared.comm.Comm.{Comm}
use Rattle.comm_core.specs.declared.call.Call.{Call}
use Rattle.comm_core.specs.declared.call.Call.TheVariants.{Register, Open, Msg, Close, Unregister, Launch}
use Rattle.comm_core.specs.declared.call.Call.TheVariants.{Push, Send, HangUp}
use Rattle.comm_core.specs.declared.reply.Reply.{Reply}
use Rattle.comm_core.specs.declared.reply.Reply.TheVariants as reply
use Rattle.comm_core.specs.declared.entry.Entry.{Entry}
use Rattle.comm_core.specs.declared.entry.Entry.TheVariants.{Change, End}
use Rattle.comm_core.specs.declared.row.Row.{Row}
use Rattle.comm_core.specs.declared.row.Row.TheVariants.{Same, Put, Out, Clear}

-- ---- what readers see

-- the open comms, in the byte order of their ids
abbrev pub rows : Machine → Opens
rows m = in_order m.comms

-- without the comms of these ids
abbrev pub without_all : {X : Type 0} → List Name → List (Name × X) → List (Name × X)
without_all [] es = es
without_all (id ∷ ids) es = without_all ids (without es id)

-- the comms after a row
abbrev pub with_row : Row → Opens → Opens
with_row Same es = es
with_row (Put c) es = insert_entry (slice_cmp nat_cmp) es c.0 c.1
with_row (Out ids) es = without_all ids es
with_row Clear es = []

-- ---- the row of an entry

abbrev pub put_row : Name → Name → Option Members → Row
put_row id target state = Put (id, record { target = target; state = state })

-- a comm that is opened has the answer's state
abbrev pub opened_row : Name → Name → Option Outcome → Row
opened_row id target (Some (Ok a)) = put_row id target a.state
opened_row id target o = Same

-- another state, where there is one
abbrev pub stated_row : Name → Name → Option Members → Row
stated_row id target None = Same
stated_row id target (Some s) = put_row id target (Some s)

-- a comm that is told has the answer's state, where that has one
abbrev pub told_row : Name → Option Comm → Option Outcome → Row
told_row id (Some c) (Some (Ok a)) = stated_row id c.target a.state
told_row id c o = Same

abbrev pub closed_row : Name → Reply → Row
closed_row id reply.Closed = Out (id ∷ [])
closed_row id r = Same

-- the comms of a target that is taken out or replaced
abbrev pub ended_row : Reply → Row
ended_row (reply.Unregistered ids) = Out ids
ended_row (reply.Replaced ids) = Out ids
ended_row r = Same

-- what a call changes in the comms of this machine, with what a target gave, and the reply
abbrev pub row_in : Machine → Call → Option Outcome → Reply → Row
row_in m (Register name kind notes) o r = ended_row r
row_in m (Open id target version body) o r = opened_row id target o
row_in m (Msg id body) o r = told_row id (at m.comms id) o
row_in m (Close id) o r = closed_row id r
row_in m (Unregister name) o r = ended_row r
row_in m (Launch uuid target state) o r = opened_row (comm_id uuid) target o
row_in m (Push id state) o r = told_row id (at m.comms id) o
row_in m (Send id body) o r = Same
row_in m (HangUp id) o r = closed_row id r

-- what an entry changes in the comms of the machine before it
abbrev pub row_of : Machine → Entry → Row
row_of m (Change client number call outcome reply outgoing) = row_in m call outcome reply
row_of m End = Clear
