-- What is read in one walk over its line: a frontend's message ('Messaging in Jupyter' 5.3, "Custom Messages"; RFC
-- 8259), and the kernel's update of a widget.
use Rattle.std.specs.Prelude.{◌≡◌, ℕ, List, [], length, false, true, Option, Some, None, Ok, IfSome, codes, option_map}
use Rattle.std.specs.Borrow.{Bor}
use Rattle.std.specs.Str.{bytes_eq}
use Rattle.json.specs.Token.{Token}
use Rattle.json.specs.Json.{Json, object, string, Members, member, no_members, value, members}
use Rattle.comm_json.specs.Behind.{get_member, in_range, line_value, members_in_range, put, text_value, tidy, tidy_members}
use Rattle.comm_value.specs.FromJson.{members_of}
use Rattle.comm_value.specs.Tree as tree
use Rattle.comm_value.specs.declared.from_json.Numbers.{Numbers}
use Rattle.comm_messages.specs.Buffers.{buffers_of}
use Rattle.comm_messages.specs.Fields.{client_of, object_in, object_or_empty}
use Rattle.comm_messages.specs.Envelope.{Envelope}
use Rattle.comm_messages.specs.Message.{message_in, type_of, version_of}
use Rattle.comm_messages.specs.declared.incoming.Incoming.{Incoming}
use Rattle.comm_messages.specs.declared.read.MessageType.{MessageType}
use Rattle.comm_reader.specs.declared.content.Content.{Content}
use Rattle.comm_reader.specs.declared.heading.Metadata.{Metadata}
use Rattle.comm_reader.specs.declared.line.Line.{Line}
use Rattle.comm_reader.specs.declared.line.LineKey.{LineKey}
use Rattle.comm_reader.specs.declared.line.LineKey.TheVariants as line_key
use Rattle.comm_reader.specs.declared.line.RareKey.{RareKey}
use Rattle.comm_reader.specs.declared.line.RareKey.TheVariants as rare_key

-- the next value of the tokens is so
abbrev pub ReadsValue : ℕ → List Token → (Json → Type 0) → List Token → Type 0
ReadsValue depth ts Is rest = (j : Json) × (value depth ts ≡ Some (j, rest)) × (in_range j ≡ true) × Is (tidy j)

-- the next value of the tokens is an object, whose members are so
abbrev pub ReadsObject : ℕ → List Token → (Members → Type 0) → List Token → Type 0
ReadsObject depth ts Are rest =
    (ms : Members) × (value depth ts ≡ Some (object ms, rest)) × (members_in_range ms ≡ true)
    × Are (tidy_members ms no_members)

-- the members of an object that has begun are so, to its end
abbrev pub ReadsMembers : ℕ → List Token → (Members → Type 0) → List Token → Type 0
ReadsMembers depth ts Are rest =
    (ms : Members) × (members (value depth) (length ts) ts ≡ Some (ms, rest)) × (members_in_range ms ≡ true)
    × Are (tidy_members ms no_members)

-- a value is absent, or an object whose members are so
abbrev pub HasObject : Option Json → (Members → Type 0) → Type 0
HasObject value Are = (ms : Members) × (object_or_empty value ≡ Some ms) × Are ms

abbrev pub IsData : Numbers → tree.Members → Members → Type 0
IsData numbers d ms = members_of numbers ms ≡ Some d

-- the version in a message's metadata
abbrev pub IsVersion : Option (Bor (List ℕ)) → Members → Type 0
IsVersion version ms = version_of ms ≡ option_map (λ s. s.now) version

-- the type in a message's header
abbrev pub IsType : MessageType → Members → Type 0
IsType t ms = type_of (Some (object ms)) ≡ Ok t

-- the members of a content
pub record HasContent (numbers : Numbers) (c : Content) (ms : Members) : Type 0 where
  pub dict : HasObject (get_member (codes "data") ms) (IsData numbers c.dict)
  pub comm_id : get_member (codes "comm_id") ms ≡ option_map (λ s. string s.now) c.comm_id
  pub target_name : get_member (codes "target_name") ms ≡ option_map (λ s. string s.now) c.target_name

-- the key of this part, which few lines have
abbrev pub IsRareKey : RareKey → List ℕ → Type 0
IsRareKey rare_key.Metadata k = bytes_eq k (codes "metadata") ≡ true
IsRareKey rare_key.Buffers k = bytes_eq k (codes "buffers") ≡ true
IsRareKey rare_key.Client k = bytes_eq k (codes "client") ≡ true
IsRareKey rare_key.Other k =
    (bytes_eq k (codes "metadata") ≡ false) × (bytes_eq k (codes "buffers") ≡ false)
    × (bytes_eq k (codes "client") ≡ false)

-- the key of this part
abbrev pub IsKey : LineKey → List ℕ → Type 0
IsKey line_key.Header k = bytes_eq k (codes "header") ≡ true
IsKey line_key.Content k = bytes_eq k (codes "content") ≡ true
IsKey (line_key.Rare rare) k =
    (bytes_eq k (codes "header") ≡ false) × (bytes_eq k (codes "content") ≡ false) × IsRareKey rare k

abbrev pub version_told : Option Metadata → Option (Bor (List ℕ))
version_told None = None
version_told (Some m) = m.version

-- the members of a line without this key
pub record HasLine (absent : List ℕ) (clients : ℕ) (numbers : Numbers) (l : Line) (ms : Members) : Type 0 where
  pub no_other : get_member absent ms ≡ None
  pub client : client_of clients (get_member (codes "client") ms) ≡ Ok l.client
  pub header : IfSome l.type_ (λ t. type_of (get_member (codes "header") ms) ≡ Ok t)
  pub content : IfSome l.content (λ c. HasObject (get_member (codes "content") ms) (HasContent numbers c))
  pub metadata : HasObject (get_member (codes "metadata") ms) (IsVersion (version_told l.metadata))
  pub buffers : buffers_of (get_member (codes "buffers") ms) ≡ Ok l.buffers

-- no member was read yet
pub record HasNothing (l : Line) : Type 0 where
  pub client : l.client ≡ 0
  pub header : l.type_ ≡ None
  pub content : l.content ≡ None
  pub metadata : l.metadata ≡ None
  pub buffers : l.buffers ≡ []

-- a line becomes another by the value of a member with a key of this part
abbrev pub HasTaken : RareKey → ℕ → Line → Line → Json → Type 0
HasTaken rare clients before after j =
    (absent : List ℕ) (numbers : Numbers) (k : List ℕ) (ms : Members) → IsKey (line_key.Rare rare) k
    → bytes_eq k absent ≡ false → HasLine absent clients numbers before ms
    → HasLine absent clients numbers after (put k j ms)

-- a text is an object whose members are so, and nothing after it
abbrev pub ReadsText : List ℕ → (Members → Type 0) → Type 0
ReadsText text Are = (ms : Members) × (text_value text ≡ Some (object ms)) × Are ms

-- the same of a text in bytes
abbrev pub ReadsLine : List ℕ → (Members → Type 0) → Type 0
ReadsLine bytes Are = (ms : Members) × (line_value bytes ≡ Some (object ms)) × Are ms

-- what a message has beside its content
abbrev pub HasRest : Envelope → Option (Bor (List ℕ)) → List (List ℕ) → Type 0
HasRest from version buffers = HasObject from.metadata (IsVersion version) × (from.buffers ≡ Ok buffers)

-- the members have no such key, and their message is this one
abbrev pub IsMessageOf : List ℕ → ℕ → Numbers → Members → ℕ × Incoming → Type 0
IsMessageOf absent clients numbers ms message =
    (get_member absent ms ≡ None) × (message_in clients numbers ms ≡ Ok message)

-- the line is an object, without this key, and its message is this one
abbrev pub IsMessage : List ℕ → ℕ → Numbers → List ℕ → ℕ × Incoming → Type 0
IsMessage absent clients numbers line message =
    (ms : Members) × (object_in line ≡ Ok ms) × IsMessageOf absent clients numbers ms message

-- the line {"call": "push", "id": id, "state": state}
abbrev pub push_line : List ℕ → Members → Members
push_line id state =
    member (codes "call") (string (codes "push"))
    (member (codes "id") (string id) (member (codes "state") (object state) no_members))

-- the line is the push of an update to the comm of an id
abbrev pub IsPush : Numbers → List ℕ → List ℕ × tree.Members → Type 0
IsPush numbers line push =
    (state : Members) × (object_in line ≡ Ok (push_line push.0 state)) × (members_of numbers state ≡ Some push.1)
