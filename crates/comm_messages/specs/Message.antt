-- The message of a line or of its parts, or the first of the tests that it fails ('Messaging in Jupyter' 5.3, "Custom
-- Messages" and "Comm info").
use Rattle.std.specs.Prelude.{ℕ, List, Option, option_and_then, Ok, Err, codes, if◌then◌else◌}
use Rattle.std.specs.Str.{bytes_eq}
use Rattle.json.specs.Json.{Json, Members}
use Rattle.comm_json.specs.Behind.{get_member, line_value}
use Rattle.comm_value.specs.FromJson.{members_of}
use Rattle.comm_value.specs.declared.from_json.Numbers.{Numbers}
use Rattle.comm_value.specs.Tree as tree
use Rattle.comm_messages.specs.Content.{Content}
use Rattle.comm_value.specs.Gives.{or_fault, ◌>>=◌}
use Rattle.comm_messages.specs.Gives.{Reading}
use Rattle.comm_messages.specs.Fields.{object_in, object_or_empty, text, text_or_none, client_of, members_in}
use Rattle.comm_messages.specs.Buffers.{buffers_of}
use Rattle.comm_messages.specs.Envelope.{Envelope, of_line, of_parts}
use Rattle.comm_messages.specs.declared.fault.Field.{Field}
use Rattle.comm_messages.specs.declared.fault.Field.TheVariants as field
use Rattle.comm_messages.specs.declared.fault.MessageFault.TheVariants.{NotJson, NoType, UnknownType}
use Rattle.comm_messages.specs.declared.fault.MessageFault.TheVariants.{BadContent, NotWhole}
use Rattle.comm_messages.specs.declared.incoming.Incoming.{Incoming}
use Rattle.comm_messages.specs.declared.incoming.Incoming.TheVariants.{Open, Msg, Close, InfoRequest}
use Rattle.comm_messages.specs.declared.read.MessageType.{MessageType}
use Rattle.comm_messages.specs.declared.read.MessageType.TheVariants as type

abbrev pub type_named : List ℕ → Reading MessageType
type_named name =
    if bytes_eq name (codes "comm_open") then Ok type.Open else if bytes_eq name (codes "comm_msg") then Ok type.Msg
    else if bytes_eq name (codes "comm_close") then Ok type.Close
    else if bytes_eq name (codes "comm_info_request") then Ok type.InfoRequest else Err UnknownType

abbrev pub type_of : Option Json → Reading MessageType
type_of header =
    or_fault NoType
    (option_and_then (λ ms. text (get_member (codes "msg_type") ms)) (option_and_then members_in header))
    >>= type_named

-- the client and the type
unfoldable pub heading : ℕ → Envelope → Reading (ℕ × MessageType)
heading clients envelope = do
  client ← client_of clients envelope.client
  type ← type_of envelope.header
  Ok (client, type)

abbrev pub text_at : Field → List ℕ → Members → Reading (List ℕ)
text_at field key ms = or_fault (BadContent field) (text (get_member key ms))

-- absent or null is an empty object
abbrev pub object_of : Field → Option Json → Reading Members
object_of field value = or_fault (BadContent field) (object_or_empty value)

abbrev pub object_at : Field → List ℕ → Members → Reading Members
object_at field key ms = object_of field (get_member key ms)

abbrev pub version_of : Members → Option (List ℕ)
version_of metadata = text (get_member (codes "version") metadata)

-- NotWhole where a number in it isn't one of these
abbrev pub dict_of : Numbers → Members → Reading tree.Members
dict_of numbers ms = or_fault NotWhole (members_of numbers ms)

-- a body of an object as its data, with buffers that were read
abbrev pub body_with : Numbers → Members → Reading (List (List ℕ)) → Reading Content
body_with numbers dict reading = do
  content ← dict_of numbers dict
  buffers ← reading
  Ok (record { content = content; buffers = buffers })

-- with the buffers of a line
abbrev pub body_of : Numbers → Members → Members → Reading Content
body_of numbers dict line = body_with numbers dict (buffers_of (get_member (codes "buffers") line))

unfoldable pub open_in : Numbers → Envelope → Members → Reading Incoming
open_in numbers envelope content = do
  id ← text_at field.CommId (codes "comm_id") content
  target ← text_at field.TargetName (codes "target_name") content
  dict ← object_at field.Body (codes "data") content
  metadata ← object_of field.Metadata envelope.metadata
  body ← body_with numbers dict envelope.buffers
  Ok (Open id target (version_of metadata) body)

unfoldable pub msg_in : Numbers → Envelope → Members → Reading Incoming
msg_in numbers envelope content = do
  id ← text_at field.CommId (codes "comm_id") content
  dict ← object_at field.Body (codes "data") content
  metadata ← object_of field.Metadata envelope.metadata
  body ← body_with numbers dict envelope.buffers
  Ok (Msg id body)

-- the metadata and the buffers of a message that uses neither: they are checked and dropped
abbrev pub unused_in : Envelope → Reading (List (List ℕ))
unused_in envelope = do
  metadata ← object_of field.Metadata envelope.metadata
  envelope.buffers

-- its data is checked and dropped too
unfoldable pub close_in : Envelope → Members → Reading Incoming
close_in envelope content = do
  id ← text_at field.CommId (codes "comm_id") content
  dict ← object_at field.Body (codes "data") content
  unused ← unused_in envelope
  Ok (Close id)

abbrev pub filter_at : List ℕ → Members → Reading (Option (List ℕ))
filter_at key ms = or_fault (BadContent field.TargetName) (text_or_none (get_member key ms))

-- without a target name it asks for the comms of all targets
unfoldable pub info_request_in : Envelope → Members → Reading Incoming
info_request_in envelope content = do
  target ← filter_at (codes "target_name") content
  unused ← unused_in envelope
  Ok (InfoRequest target)

abbrev pub incoming_in : Numbers → MessageType → Envelope → Members → Reading Incoming
incoming_in numbers type.Open envelope content = open_in numbers envelope content
incoming_in numbers type.Msg envelope content = msg_in numbers envelope content
incoming_in numbers type.Close envelope content = close_in envelope content
incoming_in numbers type.InfoRequest envelope content = info_request_in envelope content

-- the client and the message of an envelope
unfoldable pub message_from : ℕ → Numbers → Envelope → Reading (ℕ × Incoming)
message_from clients numbers envelope = do
  head ← heading clients envelope
  content ← object_of field.Content envelope.content
  incoming ← incoming_in numbers head.1 envelope content
  Ok (head.0, incoming)

-- the client and the message of an object's members
abbrev pub message_in : ℕ → Numbers → Members → Reading (ℕ × Incoming)
message_in clients numbers line = message_from clients numbers (of_line line)

-- the client and the message of a JSON value
abbrev pub message_of : ℕ → Numbers → Json → Reading (ℕ × Incoming)
message_of clients numbers value = or_fault NotJson (members_in value) >>= message_in clients numbers

-- the client and the message of a line's bytes
abbrev pub message : ℕ → Numbers → List ℕ → Reading (ℕ × Incoming)
message clients numbers bytes = object_in bytes >>= message_in clients numbers

-- the envelope of parts: header, metadata and content are each one JSON text
abbrev pub envelope_in : ℕ → (header metadata content : List ℕ) → List (List ℕ) → Reading Envelope
envelope_in client header metadata content buffers = do
  h ← or_fault NotJson (line_value header)
  m ← or_fault NotJson (line_value metadata)
  c ← or_fault NotJson (line_value content)
  Ok (of_parts client h m c buffers)

-- the client and the message of parts
abbrev pub message_by_parts : ℕ → Numbers → ℕ → (header metadata content : List ℕ) → List (List ℕ)
    → Reading (ℕ × Incoming)
message_by_parts clients numbers client header metadata content buffers =
    envelope_in client header metadata content buffers >>= message_from clients numbers
