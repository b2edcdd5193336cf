-- What of an answer goes out, and what is kept of it; for private clauses.
use Rattle.std.specs.Prelude.{◌≡◌, Bool, true, false, List, [], ◌∷◌, Option, Some, Ok, flat_map}
use Rattle.comm_value.specs.Tree.{Members}
use Rattle.comm_messages.specs.Content.{Content}
use Rattle.comm_messages.specs.declared.outgoing.Outgoing.{Outgoing}
use Rattle.comm_messages.specs.declared.outgoing.Outgoing.TheVariants as out
use Rattle.comm_targets.specs.declared.event.Event.{Event}
use Rattle.comm_targets.specs.declared.event.Event.TheVariants as event
use Rattle.comm_core.specs.Machine.{Name}
use Rattle.comm_core.specs.Step.{Outcome}
use Rattle.comm_core.specs.declared.target_request.TargetRequest.{TargetRequest}

abbrev pub body_of : Outgoing → List Content
body_of (out.Msg id body) = body ∷ []
body_of message = []

-- what goes out as messages on a comm
abbrev pub bodies_in : List Outgoing → List Content
bodies_in messages = flat_map body_of messages

-- an answer's messages are those that go out
abbrev pub IsTold : Option Outcome → List Outgoing → Type 0
IsTold (Some (Ok a)) messages = a.messages ≡ bodies_in messages
IsTold o messages = Unit {0}

-- this is the state that an answer gives
abbrev pub HasStateOf : Option Outcome → Option Members → Type 0
HasStateOf (Some (Ok a)) state = state ≡ a.state
HasStateOf o state = Unit {0}

-- what the target of this name is asked
abbrev pub asked : Name → Option Members → Event → TargetRequest
asked name state e = record { name = name; state = state; event = e }

-- the id of the comm that an event is about
abbrev pub id_of : Event → Name
id_of (event.Open id version body) = id
id_of (event.Launch id state) = id
id_of (event.Msg id body) = id
id_of (event.Push id state) = id

-- it is opened by the event
abbrev pub is_opening : Event → Bool
is_opening (event.Open id version body) = true
is_opening (event.Launch id state) = true
is_opening (event.Msg id body) = false
is_opening (event.Push id state) = false
