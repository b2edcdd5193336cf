-- The round trip of a message that is written: it is read as JSON and as an equal message. The law is in laws.rt.
use Rattle.std.specs.Prelude.{◌≡◌, ◌<◌, ◌≤◌, ◌^◌, ℕ, true, false, List, [], ◌∷◌, Option, Some, None, Ok, All, IsUtf8, ⊤}
use Rattle.base64.specs.GeneralPurpose.{IsBytes}
use Rattle.json.specs.Tree.{depth}
use Rattle.serde_json.specs.Read.{max_depth}
use Rattle.comm_value.specs.Tree.{Tree, whole, decimal, text as a_text, list, dict}
use Rattle.comm_value.specs.Tree.{Items, no_items, item, Members, no_members, member}
use Rattle.comm_value.specs.Order.{members_ordered}
use Rattle.comm_value.specs.Places.{members_have_bytes}
use Rattle.comm_value.specs.Range.{in_range}
use Rattle.comm_json.specs.Behind.{line_value, is_decimal}
use Rattle.comm_value.specs.declared.from_json.Numbers.{Numbers}
use Rattle.comm_value.specs.declared.from_json.Numbers.TheVariants.{Whole, Any}
use Rattle.comm_messages.specs.Content.{Content}
use Rattle.comm_messages.specs.Listed.{IdsAreInOrder}
use Rattle.comm_messages.specs.declared.infos.Info.{Info}
use Rattle.comm_messages.specs.Message.{message, message_of}
use Rattle.comm_messages.specs.Text.{text, client_in, json_of, parts_of}
use Rattle.comm_messages.specs.declared.incoming.Incoming.{Incoming}
use Rattle.comm_messages.specs.declared.incoming.Incoming.TheVariants as incoming
use Rattle.comm_messages.specs.declared.outgoing.Outgoing.{Outgoing}
use Rattle.comm_messages.specs.declared.outgoing.Outgoing.TheVariants.{Open, Msg, Close, InfoReply}
use Rattle.comm_messages.specs.declared.outgoing.Parent.{Parent}
use Rattle.comm_messages.specs.declared.outgoing.Parent.TheVariants.{Call, Read}

-- the incoming message with equal id, target name, version, data and buffers; a comm_info_reply isn't read
abbrev pub same_message : Outgoing → Option Incoming
same_message (Open id target version body) = Some (incoming.Open id target (Some version) body)
same_message (Msg id body) = Some (incoming.Msg id body)
same_message (Close id) = Some (incoming.Close id)
same_message (InfoReply comms) = None

-- the number of a call, or of the changes that a read saw
abbrev pub number_in : Parent → ℕ
number_in (Call client call) = call
number_in (Read client front) = front

-- ---- what the types of a message keep to

-- a number that isn't whole, where such are values
abbrev pub IsTaken : Numbers → List ℕ → Type 0
IsTaken Whole s = ⊥
IsTaken Any s = (is_decimal s ≡ true) × IsUtf8 s

-- each text is UTF-8, each whole number one that JSON holds without loss, and each decimal one of another form
abbrev mutual
  pub IsKept : Numbers → Tree → Type 0
  IsKept numbers (whole z) = in_range z ≡ true
  IsKept numbers (decimal s) = IsTaken numbers s
  IsKept numbers (a_text s) = IsUtf8 s
  IsKept numbers (list ts) = ItemsKept numbers ts
  IsKept numbers (dict ms) = MembersKept numbers ms
  IsKept numbers _ = ⊤

  pub ItemsKept : Numbers → Items → Type 0
  ItemsKept numbers no_items = ⊤
  ItemsKept numbers (item t ts) = IsKept numbers t × ItemsKept numbers ts

  pub MembersKept : Numbers → Members → Type 0
  MembersKept numbers no_members = ⊤
  MembersKept numbers (member k t ms) = IsUtf8 k × IsKept numbers t × MembersKept numbers ms

-- the data of a body has its keys in order and no bytes, and a buffer's bytes are below 256
pub record BodyKept (numbers : Numbers) (body : Content) : Type 0 where
  pub ordered : members_ordered body.content ≡ true
  pub plain : members_have_bytes body.content ≡ false
  pub values : MembersKept numbers body.content
  pub bytes : All IsBytes body.buffers

abbrev pub InfosKept : List Info → Type 0
InfosKept [] = ⊤
InfosKept (info ∷ infos) = IsUtf8 info.id × IsUtf8 info.target × InfosKept infos

abbrev pub MessageKept : Numbers → Outgoing → Type 0
MessageKept numbers (Open id target version body) = IsUtf8 id × IsUtf8 target × IsUtf8 version × BodyKept numbers body
MessageKept numbers (Msg id body) = IsUtf8 id × BodyKept numbers body
MessageKept numbers (Close id) = IsUtf8 id
MessageKept numbers (InfoReply comms) = InfosKept comms × IdsAreInOrder comms

-- ---- the law

-- the text parses as the object that is written, with each key and each comm of a reply, where it nests no deeper than
-- is read
abbrev pub TextIsItsObject : Type 0
TextIsItsObject =
    (numbers : Numbers) (m : Outgoing) (parent : Parent) → MessageKept numbers m → client_in parent < 2 ^ 8
    → number_in parent < 2 ^ 64 → depth (json_of (parts_of m) parent) ≤ max_depth
    → line_value (text m parent) ≡ Some (json_of (parts_of m) parent)

-- the object that is written says the message to a reader that takes its numbers
abbrev pub ObjectSaysMessage : Type 0
ObjectSaysMessage =
    (clients : ℕ) (numbers : Numbers) (m : Outgoing) (parent : Parent) (i : Incoming) → same_message m ≡ Some i
    → MessageKept numbers m → client_in parent < 2 ^ 64 → client_in parent < clients
    → message_of clients numbers (json_of (parts_of m) parent) ≡ Ok (client_in parent, i)

-- so the message and its client are read from the text again
abbrev pub TextIsReadAgain : Type 0
TextIsReadAgain =
    (clients : ℕ) (numbers : Numbers) (m : Outgoing) (parent : Parent) (i : Incoming) → same_message m ≡ Some i
    → MessageKept numbers m → clients < 2 ^ 8 → client_in parent < clients → number_in parent < 2 ^ 64
    → depth (json_of (parts_of m) parent) ≤ max_depth
    → message clients numbers (text m parent) ≡ Ok (client_in parent, i)
