-- What an exported call does: to the manager behind a handle, and to the caller's buffers.
use Rattle.std.specs.Prelude.{◌≡◌, ◌≢◌, ◌⊎◌, ◌↔◌, ℕ, ◌<◌, ◌≤◌, ◌^◌, List, ◌++◌, length, drop}
use Rattle.std.specs.Prelude.{Option, Some, None, Err, IsOk}
use Rattle.comm_targets.specs.declared.kind.Kind.{Kind}
use Rattle.comm_core.specs.Machine.{Name}
use Rattle.comm_c.specs.CallResult.{result_number, result_text, sent}
use Rattle.comm_c.specs.Codes.{ok, closed, memory, exhausted, bad_name, bad_sizes, not_json}
use Rattle.comm_c.specs.Inputs.{Tested, line_input}
use Rattle.comm_c.specs.ManagerState.{ManagerState, Plays, PlaysTested, RegistersTarget}
use Rattle.comm_c.specs.Parts.{part_replied, part_sent}
use Rattle.comm_c.specs.Reasons.{reason_of}
use Rattle.comm_c.specs.declared.counted_core.CountedCore.{CountedCore}
use Rattle.comm_c.specs.declared.input.CallFault.{CallFault}
use Rattle.comm_c.specs.declared.input.CallFault.TheVariants.{BadName, BadSizes, NotJson}

-- ---- what a manager gives

-- a manager is there, and this is the number of its last call's result, and how many messages that call sends
abbrev pub HasLastResult : Option ManagerState → (reply count : ℕ) → Type 0
HasLastResult (Some k) reply count = (reply ≡ result_number k.call_result) × (count ≡ length (sent k.call_result))
HasLastResult None reply count = ⊥

-- a manager is there, and this is why its last call's reply is bad, refused or a fault
abbrev pub HasLastReason : Option ManagerState → (reason index : ℕ) → Type 0
HasLastReason (Some k) reason index = (reason, index) ≡ reason_of k.call_result
HasLastReason None reason index = ⊥

-- a part of a message that the last call sends, where there is one
abbrev pub sent_part_of : Option ManagerState → (message part : ℕ) → Option (List ℕ)
sent_part_of (Some k) message part = part_sent k.call_result message part
sent_part_of None message part = None

-- a part of the reply to the last call, where there is one
abbrev pub reply_part_of : Option ManagerState → (part : ℕ) → Option (List ℕ)
reply_part_of (Some k) part = part_replied k.call_result part
reply_part_of None part = None

-- the text of the last call
abbrev pub text_of : Option ManagerState → Option (List ℕ)
text_of (Some k) = Some (result_text k.call_result)
text_of None = None

-- ---- the caller's buffers

-- the bytes stand at the beginning of the buffer, and the rest is as it was
abbrev pub Fills : List ℕ → List ℕ → List ℕ → Type 0
Fills bytes before now = now ≡ bytes ++ drop (length bytes) before

-- there are such bytes, and they are in the buffer, with their size
abbrev pub FillsPart : Option (List ℕ) → (before now : List ℕ) → ℕ → Type 0
FillsPart (Some bytes) before now n = Fills bytes before now × (n ≡ length bytes)
FillsPart None before now n = ⊥

-- there are such bytes of this size, which is more than the buffer has room for
abbrev pub IsLongerPart : Option (List ℕ) → (buffer : List ℕ) → ℕ → Type 0
IsLongerPart (Some bytes) buffer n = (n ≡ length bytes) × (length buffer < n)
IsLongerPart None buffer n = ⊥

-- ---- a call that asks for something

-- what it asks for of the core that it comes to
abbrev pub Ask : Type 0
Ask = CountedCore → Tested

-- a manager was there, is there, and has done what was asked for
abbrev pub HasPlayed : Ask → Option ManagerState → Option ManagerState → Type 0
HasPlayed ask (Some k) (Some after) = PlaysTested k (ask k.counted_core) after
HasPlayed ask (Some k) None = ⊥
HasPlayed ask None after = ⊥

-- a manager is there, and this is the first test that what is asked for fails
abbrev pub FailsTest : Ask → Option ManagerState → CallFault → Type 0
FailsTest ask (Some k) fault = ask k.counted_core ≡ Err fault
FailsTest ask None fault = ⊥

-- a manager is there, and what is asked for passes each test
abbrev pub PassesTests : Ask → Option ManagerState → Type 0
PassesTests ask (Some k) = IsOk (ask k.counted_core)
PassesTests ask None = ⊥

-- a manager is there, and has had as many calls as it takes
abbrev pub IsExhausted : Option ManagerState → Type 0
IsExhausted (Some k) = 2 ^ 62 ≤ k.number
IsExhausted None = ⊥

-- What such a call does, by its status, to the manager, and to the numbers of its result that the caller gets. After
-- `memory` nothing is known of what was asked for.
pub record HasCalled (ask : Ask) (old new : Option ManagerState) (status reply count : ℕ) : Type 0 where
  pub played : status ≡ ok → HasPlayed ask old new
  pub result_is : status ≡ ok → HasLastResult new reply count
  pub same : status ≢ ok → new ≡ old
  pub nothing : status ≢ ok → (reply ≡ 0) × (count ≡ 0)
  pub closed_is : (status ≡ closed) ↔ (old ≡ None)
  pub sizes : status ≡ bad_sizes → FailsTest ask old BadSizes
  pub name : status ≡ bad_name → FailsTest ask old BadName
  pub json : status ≡ not_json → FailsTest ask old NotJson
  pub full : status ≡ exhausted → IsExhausted old
  pub last : status ≡ exhausted → PassesTests ask old
  pub codes : (status ≡ ok) ⊎ (status ≡ closed) ⊎ (status ≡ memory) ⊎ (status ≡ exhausted) ⊎ (status ≡ bad_sizes)
      ⊎ (status ≡ bad_name) ⊎ (status ≡ not_json)

-- a manager was there, is there, and has played the line
abbrev pub HasPlayedLine : Option ManagerState → List ℕ → Option ManagerState → Type 0
HasPlayedLine (Some k) line (Some after) = Plays k (line_input k.counted_core.numbers line) after
HasPlayedLine (Some k) line None = ⊥
HasPlayedLine None line after = ⊥

-- it registers a target, where there is such a kind
abbrev pub RegistersKind : ManagerState → ℕ → Option Kind → Name → ManagerState → Type 0
RegistersKind k client (Some kind) name after = RegistersTarget k client kind name after
RegistersKind k client None name after = ⊥

-- a manager was there, is there, and has registered a target
abbrev pub HasRegistered : Option ManagerState → ℕ → Option Kind → Name → Option ManagerState → Type 0
HasRegistered (Some k) client kind name (Some after) = RegistersKind k client kind name after
HasRegistered (Some k) client kind name None = ⊥
HasRegistered None client kind name after = ⊥
