-- What an exported call of a client does: to the client behind the handle, to the manager that clients share, and to
-- the caller's numbers.
use Rattle.std.specs.Prelude.{◌≡◌, ◌≢◌, ◌⊎◌, ◌↔◌, ℕ, ◌≤◌, ◌^◌, List, length, IsUtf8}
use Rattle.std.specs.Prelude.{Option, Some, None, Err, IsOk}
use Rattle.comm_value.specs.declared.from_json.Numbers.{Numbers}
use Rattle.comm_targets.specs.declared.kind.Kind.{Kind}
use Rattle.comm_core.specs.Machine.{Machine, Name}
use Rattle.comm_versions.specs.Known.{Known}
use Rattle.comm_shared.specs.SharedView.{most_changes}
use Rattle.comm_c.specs.CallResult.{result_number, sent}
use Rattle.comm_c.specs.ClientState.{ClientState}
use Rattle.comm_c.specs.Clients.{ClientPlaysTested, ClientRegisters, IsFirstClient, IsNewcomer, machine_of}
use Rattle.comm_c.specs.Codes.{again, bad_name, bad_sizes, busy, closed, exhausted, memory, not_json, ok, stranger}
use Rattle.comm_c.specs.Inputs.{Tested}
use Rattle.comm_c.specs.Parts.{part_replied, part_sent}
use Rattle.comm_c.specs.Reasons.{reason_of}
use Rattle.comm_c.specs.declared.input.CallFault.{CallFault}
use Rattle.comm_c.specs.declared.input.CallFault.TheVariants.{BadName, BadSizes, NotJson}

-- ---- what a client gives: the result of its own last call

-- a client is there, and this is the number of its last call's result, and how many messages that call sends
abbrev pub HasClientResult : Option ClientState → (reply count : ℕ) → Type 0
HasClientResult (Some k) reply count = (reply ≡ result_number k.call_result) × (count ≡ length (sent k.call_result))
HasClientResult None reply count = ⊥

-- a client is there, and this is why its last call's reply is bad, refused or a fault
abbrev pub HasClientReason : Option ClientState → (reason index : ℕ) → Type 0
HasClientReason (Some k) reason index = (reason, index) ≡ reason_of k.call_result
HasClientReason None reason index = ⊥

-- a part of a message that the client's last call sends, where there is one
abbrev pub client_sent_part : Option ClientState → (message part : ℕ) → Option (List ℕ)
client_sent_part (Some k) message part = part_sent k.call_result message part
client_sent_part None message part = None

-- a part of the reply to the client's last call, where there is one
abbrev pub client_reply_part : Option ClientState → (part : ℕ) → Option (List ℕ)
client_reply_part (Some k) part = part_replied k.call_result part
client_reply_part None part = None

-- a client is there, and has seen so many entries of the history
abbrev pub HasSeen : Option ClientState → ℕ → Type 0
HasSeen (Some k) count = count ≡ length k.view.own.seen
HasSeen None count = ⊥

-- ---- new clients

-- the first client of a new manager is there
abbrev pub HasOpened : (comms : ℕ) → Numbers → Option ClientState → Type 0
HasOpened comms numbers (Some n) = IsFirstClient comms numbers n
HasOpened comms numbers None = ⊥

-- a client was there, and another one of its manager is
abbrev pub HasJoined : Option ClientState → Option ClientState → Type 0
HasJoined (Some k) (Some n) = IsNewcomer k n
HasJoined (Some k) None = ⊥
HasJoined None new = ⊥

-- ---- a call that enters

-- what it asks for, of the machine that it comes to
abbrev pub ClientAsk : Type 0
ClientAsk = Machine → Numbers → Tested

-- The manager had a history when the call came in, and the client has done what was asked for there.
pub record HasPlayedThere (ask : ClientAsk) (k n : ClientState) : Type 0 where
  pub before : Known
  pub after : Known
  pub origin_is : before.origin ≡ k.view.origin
  pub plays : ClientPlaysTested k before (ask (machine_of before) k.numbers) n after

-- a client was there, is there, and has done what was asked for
abbrev pub HasClientPlayed : ClientAsk → Option ClientState → Option ClientState → Type 0
HasClientPlayed ask (Some k) (Some n) = HasPlayedThere ask k n
HasClientPlayed ask (Some k) None = ⊥
HasClientPlayed ask None new = ⊥

-- a client is there, and this is the first test that what is asked for fails, after some history of its manager
abbrev pub FailsClientTest : ClientAsk → Option ClientState → CallFault → Type 0
FailsClientTest ask (Some k) fault =
    (before : Known) × (before.origin ≡ k.view.origin) × (ask (machine_of before) k.numbers ≡ Err fault)
FailsClientTest ask None fault = ⊥

-- a client is there, and it has had as many calls as it makes, or the history has as many entries as it may have
abbrev pub IsFull : Option ClientState → Type 0
IsFull (Some k) =
    (2 ^ 62 ≤ k.number) ⊎ ((before : Known) × (before.origin ≡ k.view.origin) × (length before.entries ≡ most_changes))
IsFull None = ⊥

-- What such a call does, by its status, to the client, and to the numbers of its result that the caller gets. After
-- `busy`, `memory` and `stranger` nothing is known of what was asked for; the manager is as it was, as after each
-- status but `ok`.
pub record HasClientCalled (ask : ClientAsk) (old new : Option ClientState) (status reply count : ℕ) : Type 0 where
  pub played : status ≡ ok → HasClientPlayed ask old new
  pub result_is : status ≡ ok → HasClientResult new reply count
  pub same : status ≢ ok → new ≡ old
  pub nothing : status ≢ ok → (reply ≡ 0) × (count ≡ 0)
  pub closed_is : (status ≡ closed) ↔ (old ≡ None)
  pub sizes : status ≡ bad_sizes → FailsClientTest ask old BadSizes
  pub name : status ≡ bad_name → FailsClientTest ask old BadName
  pub json : status ≡ not_json → FailsClientTest ask old NotJson
  pub full : status ≡ exhausted → IsFull old
  pub codes : (status ≡ ok) ⊎ (status ≡ closed) ⊎ (status ≡ busy) ⊎ (status ≡ memory) ⊎ (status ≡ exhausted)
      ⊎ (status ≡ bad_sizes) ⊎ (status ≡ bad_name) ⊎ (status ≡ not_json) ⊎ (status ≡ stranger)

-- The manager had a history when the call came in, and the client has registered a target there.
pub record HasRegisteredThere (kind : Kind) (name : Name) (k n : ClientState) : Type 0 where
  pub before : Known
  pub after : Known
  pub origin_is : before.origin ≡ k.view.origin
  pub registers : ClientRegisters k before kind name n after

-- it has registered a target, where there is such a kind
abbrev pub RegistersThere : Option Kind → Name → ClientState → ClientState → Type 0
RegistersThere (Some kind) name k n = HasRegisteredThere kind name k n
RegistersThere None name k n = ⊥

-- a client was there, is there, and has registered a target
abbrev pub HasClientRegistered : Option Kind → Name → Option ClientState → Option ClientState → Type 0
HasClientRegistered kind name (Some k) (Some n) = RegistersThere kind name k n
HasClientRegistered kind name (Some k) None = ⊥
HasClientRegistered kind name None new = ⊥

-- ---- a read

-- a client was there, is there, and has read so
abbrev pub HasReadSo : (ClientState → ClientState → Type 0) → Option ClientState → Option ClientState → Type 0
HasReadSo Reads (Some k) (Some n) = Reads k n
HasReadSo Reads (Some k) None = ⊥
HasReadSo Reads None new = ⊥

-- a client is there, and it has had as many calls as it makes
abbrev pub HasCalledMost : Option ClientState → Type 0
HasCalledMost (Some k) = 2 ^ 62 ≤ k.number
HasCalledMost None = ⊥

-- What a read of what has this name does, by its status, to the client, and to the numbers of its result.
pub record HasClientRead (Reads : ClientState → ClientState → Type 0) (named : List ℕ) (old new : Option ClientState)
    (status reply count : ℕ) : Type 0 where
  pub read : status ≡ ok → HasReadSo Reads old new
  pub result_is : status ≡ ok → HasClientResult new reply count
  pub same : status ≢ ok → new ≡ old
  pub nothing : status ≢ ok → (reply ≡ 0) × (count ≡ 0)
  pub closed_is : (status ≡ closed) ↔ (old ≡ None)
  pub name : status ≡ bad_name → ¬ (IsUtf8 named)
  pub full : status ≡ exhausted → HasCalledMost old
  pub codes : (status ≡ ok) ⊎ (status ≡ closed) ⊎ (status ≡ memory) ⊎ (status ≡ exhausted) ⊎ (status ≡ bad_name)
      ⊎ (status ≡ again)
