-- The text of an outgoing message ('Messaging in Jupyter' 5.3, "Custom Messages" and "Comm info"): compact JSON with
-- its keys in byte order.
use Rattle.std.specs.Prelude.{ℕ, List, [], ◌∷◌, map, codes, decimal, Bool, true, false}
use Rattle.base64.specs.GeneralPurpose.{encode_of}
use Rattle.base64.specs.Engines.{standard}
use Rattle.json.specs.Json.{Json, number, string, array, object}
use Rattle.json.specs.Json.{Items, no_items, item, Members, no_members, member}
use Rattle.comm_json.specs.Text.{compact_text}
use Rattle.comm_value.specs.ToJson.{json_members}
use Rattle.comm_messages.specs.declared.outgoing.Outgoing.{Outgoing}
use Rattle.comm_messages.specs.declared.outgoing.Outgoing.TheVariants.{Open, Msg, Close, InfoReply}
use Rattle.comm_messages.specs.declared.outgoing.Parent.{Parent}
use Rattle.comm_messages.specs.declared.outgoing.Parent.TheVariants.{Call, Read}
use Rattle.comm_messages.specs.declared.infos.Info.{Info}

abbrev pub texts : List (List ℕ) → Items
texts [] = no_items
texts (s ∷ ss) = item (string s) (texts ss)

-- each buffer in base64 (RFC 4648, section 4)
abbrev pub buffer_texts : List (List ℕ) → Items
buffer_texts buffers = texts (map (encode_of standard) buffers)

-- the target name of each comm, by its id: a list in the order of ids gives an object with its keys in order, each once
abbrev pub comm_members : List Info → Members
comm_members [] = no_members
comm_members (info ∷ infos) =
    member info.id (object (member (codes "target_name") (string info.target) no_members)) (comm_members infos)

pub record Parts : Type 0 where
  pub type : List ℕ
  pub content : Members
  pub metadata : Members
  pub buffers : List (List ℕ)

abbrev pub parts_of : Outgoing → Parts
parts_of (Open id target version body) = record {
  type = codes "comm_open";
  content = member (codes "comm_id") (string id)
      (member (codes "data") (object (json_members body.content))
      (member (codes "target_name") (string target) no_members));
  metadata = member (codes "version") (string version) no_members;
  buffers = body.buffers;
}
parts_of (Msg id body) = record {
  type = codes "comm_msg";
  content = member (codes "comm_id") (string id)
      (member (codes "data") (object (json_members body.content)) no_members);
  metadata = no_members;
  buffers = body.buffers;
}
parts_of (Close id) = record {
  type = codes "comm_close";
  content = member (codes "comm_id") (string id) (member (codes "data") (object no_members) no_members);
  metadata = no_members;
  buffers = [];
}
parts_of (InfoReply comms) = record {
  type = codes "comm_info_reply";
  content = member (codes "comms") (object (comm_members comms))
      (member (codes "status") (string (codes "ok")) no_members);
  metadata = no_members;
  buffers = [];
}

abbrev pub client_in : Parent → ℕ
client_in (Call client call) = client
client_in (Read client front) = client

-- a call is numbered within its client, from 1
abbrev pub with_call : Parent → Members → Members
with_call (Call client call) more = member (codes "call") (number (decimal call)) more
with_call (Read client front) more = more

-- a read has the number of changes that it saw
abbrev pub with_front : Parent → Members → Members
with_front (Call client call) more = more
with_front (Read client front) more = member (codes "front") (number (decimal front)) more

abbrev pub json_of : Parts → Parent → Json
json_of parts parent =
    object (member (codes "buffers") (array (buffer_texts parts.buffers))
    (with_call parent
    (member (codes "client") (number (decimal (client_in parent)))
    (member (codes "content") (object parts.content)
    (with_front parent
    (member (codes "header") (object (member (codes "msg_type") (string parts.type) no_members))
    (member (codes "metadata") (object parts.metadata) no_members)))))))

-- a reply goes with its read, and any other message with its call
abbrev pub goes_with : Outgoing → Parent → Bool
goes_with (InfoReply comms) (Read client front) = true
goes_with (InfoReply comms) (Call client call) = false
goes_with message (Read client front) = false
goes_with message (Call client call) = true

unfoldable pub text : Outgoing → Parent → List ℕ
text message parent = compact_text (json_of (parts_of message) parent)
