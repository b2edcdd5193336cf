-- Runs in which no decimal comes in.
use Rattle.std.specs.Prelude.{◌≡◌, false, Some, IfSome, ⊤}
use Rattle.std.specs.List.{AllByRecursion}
use Rattle.comm_value.specs.Decimals.{MembersHaveNoDecimal}
use Rattle.comm_messages.specs.declared.outgoing.Outgoing.{Outgoing}
use Rattle.comm_messages.specs.declared.outgoing.Outgoing.TheVariants as out
use Rattle.comm_core.specs.Machine.{Name, Machine, at}
use Rattle.comm_core.specs.Exact.{registers_free}
use Rattle.comm_core.specs.declared.comm.Comm.{Comm}
use Rattle.comm_core.specs.declared.call.Call.{Call}
use Rattle.comm_core.specs.declared.call.Call.TheVariants.{Open, Msg, Launch, Push, Send}
use Rattle.comm_core.specs.declared.entry.Entry.{Entry}
use Rattle.comm_core.specs.declared.entry.Entry.TheVariants.{Change, End}

-- no decimal stands in the data or the state that the call brings
abbrev pub BringsNoDecimal : Call → Type 0
BringsNoDecimal (Open id target version body) = MembersHaveNoDecimal body.content
BringsNoDecimal (Msg id body) = MembersHaveNoDecimal body.content
BringsNoDecimal (Launch uuid target state) = MembersHaveNoDecimal state
BringsNoDecimal (Push id state) = MembersHaveNoDecimal state
BringsNoDecimal (Send id body) = MembersHaveNoDecimal body.content
BringsNoDecimal call = ⊤

-- the call brings no decimal, and registers no target of the kind Free
abbrev pub AsksForIntegers : Entry → Type 0
AsksForIntegers (Change client number call outcome reply outgoing) = BringsNoDecimal call × (registers_free call ≡ false)
AsksForIntegers End = ⊤

-- no decimal stands in the message's data
abbrev pub HasIntegersAlone : Outgoing → Type 0
HasIntegersAlone (out.Open id target version body) = MembersHaveNoDecimal body.content
HasIntegersAlone (out.Msg id body) = MembersHaveNoDecimal body.content
HasIntegersAlone message = ⊤

-- each message that goes out is so
abbrev pub SendsIntegers : Entry → Type 0
SendsIntegers (Change client number call outcome reply outgoing) = AllByRecursion HasIntegersAlone outgoing
SendsIntegers End = ⊤

-- no comm's state has a decimal
abbrev pub HoldsIntegers : Machine → Type 0
HoldsIntegers m = (id : Name) (c : Comm) → at m.comms id ≡ Some c → IfSome c.state MembersHaveNoDecimal
