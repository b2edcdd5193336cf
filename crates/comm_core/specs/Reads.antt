-- What a manager is asked without changing it ('Messaging in Jupyter' 5.3, "Comm info").
use Rattle.std.specs.Prelude.{Bool, true, List, [], map, filter, fold, Option, Some, None}
use Rattle.std.specs.Str.{bytes_eq}
use Rattle.std.specs.Ordering.{nat_cmp}
use Rattle.std.specs.BTreeMap.{insert_entry}
use Rattle.std.specs.Cmp.Lexicographic.{slice_cmp}
use Rattle.comm_value.specs.Tree.{Members}
use Rattle.comm_messages.specs.declared.infos.Info.{Info}
use Rattle.comm_core.specs.Machine.{Name, Machine, at}
use Rattle.comm_core.specs.declared.comm.Comm.{Comm}
use Rattle.comm_core.specs.declared.reply.StateAnswer.{StateAnswer}
use Rattle.comm_core.specs.declared.reply.StateAnswer.TheVariants.{NoComm, NoState, State}

abbrev pub info_of : Name × Comm → Info
info_of e = record { id = e.0; target = e.1.target }

-- each entry put in its place in the byte order of the keys
abbrev pub in_order : {X : Type 0} → List (Name × X) → List (Name × X)
in_order es = fold (λ done e. insert_entry (slice_cmp nat_cmp) done e.0 e.1) [] es

-- comms of this target are asked for
abbrev pub passes : Option Name → Name → Bool
passes None target = true
passes (Some name) target = bytes_eq name target

-- the open comms, those of one target where a name is given, in the byte order of their ids
abbrev pub infos : Machine → Option Name → List Info
infos m asked = map info_of (filter (λ e. passes asked e.1.target) (in_order m.comms))

abbrev pub state_in : Option Members → StateAnswer
state_in None = NoState
state_in (Some s) = State s

abbrev pub state_at : Option Comm → StateAnswer
state_at None = NoComm
state_at (Some c) = state_in c.state

abbrev pub state_of : Machine → Name → StateAnswer
state_of m id = state_at (at m.comms id)
