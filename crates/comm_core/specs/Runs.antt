-- What a history tells of each comm by itself, from its calls, replies and answers alone: what opened it, what ended
-- it, and which states it was given. No machine is worked out here.
use Rattle.std.specs.Prelude.{◌≡◌, Bool, true, false, List, ◌∷◌, ◌++◌, Option, Some, None, Ok, if◌then◌else◌}
use Rattle.std.specs.List.{list_any, filter_map, last_or}
use Rattle.std.specs.Str.{bytes_eq}
use Rattle.comm_value.specs.Tree.{Members}
use Rattle.comm_core.specs.Machine.{Name}
use Rattle.comm_core.specs.Step.{Outcome, comm_id}
use Rattle.comm_core.specs.declared.entry.Entry.{Entry}
use Rattle.comm_core.specs.declared.entry.Entry.TheVariants.{Change, End}
use Rattle.comm_core.specs.declared.call.Call.{Call}
use Rattle.comm_core.specs.declared.call.Call.TheVariants.{Register, Open, Msg, Close, Unregister, Launch}
use Rattle.comm_core.specs.declared.call.Call.TheVariants.{Push, HangUp}
use Rattle.comm_core.specs.declared.reply.Reply.{Reply}
use Rattle.comm_core.specs.declared.reply.Reply.TheVariants as reply

-- ---- which comms are open

-- the id of a comm and the name of its target
abbrev pub Pair : Type 0
Pair = Name × Name

-- the id of the comm that is opened, and the name of its target
abbrev pub opening : Call → Reply → Option Pair
opening (Open id target version body) reply.Opened = Some (id, target)
opening (Launch uuid target state) reply.Launched = Some (comm_id uuid, target)
opening call r = None

abbrev pub HasOpened : Entry → Name → Name → Type 0
HasOpened (Change client number call outcome r outgoing) id target = opening call r ≡ Some (id, target)
HasOpened End id target = ⊥

-- the comm of this target is closed or hung up, or its target is taken out or replaced
abbrev pub ending : Call → Reply → Name → Name → Bool
ending (Close closed) reply.Closed id target = bytes_eq id closed
ending (HangUp closed) reply.Closed id target = bytes_eq id closed
ending (Unregister name) (reply.Unregistered ids) id target = bytes_eq name target
ending (Register name kind notes) (reply.Replaced ids) id target = bytes_eq name target
ending call r id target = false

abbrev pub has_ended : Name → Name → Entry → Bool
has_ended id target (Change client number call outcome r outgoing) = ending call r id target
has_ended id target End = true

-- The opener opened the comm towards the target, and nothing after it ended the comm.
pub record IsOpenSince (history before : List Entry) (opener : Entry) (after : List Entry)
    (id target : Name) : Type 0 where
  pub parts : history ≡ before ++ opener ∷ after
  pub opened : HasOpened opener id target
  pub lasts : list_any (has_ended id target) after ≡ false

-- the comm was opened towards the target, and nothing has ended it since
abbrev pub IsLeftOpen : List Entry → Name → Name → Type 0
IsLeftOpen history id target =
    (before : List Entry) × (opener : Entry) × (after : List Entry) × IsOpenSince history before opener after id target

-- comms of this target are asked for
abbrev pub AsksFor : Option Name → Name → Type 0
AsksFor None target = Unit {0}
AsksFor (Some name) target = name ≡ target

-- ---- which states a comm is given

-- the state that the target's answer to the call has for this comm
abbrev pub given : Name → Call → Option Outcome → Option Members
given id (Open opened target version body) (Some (Ok answer)) = if bytes_eq id opened then answer.state else None
given id (Msg told body) (Some (Ok answer)) = if bytes_eq id told then answer.state else None
given id (Launch uuid target state) (Some (Ok answer)) = if bytes_eq id (comm_id uuid) then answer.state else None
given id (Push told state) (Some (Ok answer)) = if bytes_eq id told then answer.state else None
given id call outcome = None

abbrev pub given_by : Name → Entry → Option Members
given_by id (Change client number call outcome r outgoing) = given id call outcome
given_by id End = None

-- the state that the comm was given last, if any
abbrev pub last_given : Name → List Entry → Option Members
last_given id entries = last_or None (filter_map (given_by id) entries)
