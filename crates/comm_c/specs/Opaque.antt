-- Messages for opaque targets, of which neither data nor buffers are read; and which comm a frontend opens by what
-- can't be read.
use Rattle.std.specs.Prelude.{◌≡◌, ℕ, List, [], Bool, true, false, Option, Some, None, option_map, Ok, Err, codes}
use Rattle.std.specs.Prelude.{if◌then◌else◌}
use Rattle.json.specs.Json.{Members}
use Rattle.comm_json.specs.Behind.{get_member}
use Rattle.comm_value.specs.Tree.{no_members}
use Rattle.comm_value.specs.declared.from_json.Numbers.{Numbers}
use Rattle.comm_messages.specs.Content.{Content}
use Rattle.comm_messages.specs.Envelope.{Envelope}
use Rattle.comm_messages.specs.Fields.{text}
use Rattle.comm_messages.specs.Gives as message
use Rattle.comm_messages.specs.Message.{envelope_in, heading, object_of, type_of}
use Rattle.comm_messages.specs.declared.fault.Field.TheVariants as field
use Rattle.comm_messages.specs.declared.incoming.Incoming.{Incoming}
use Rattle.comm_messages.specs.declared.incoming.Incoming.TheVariants as incoming
use Rattle.comm_messages.specs.declared.read.MessageType.{MessageType}
use Rattle.comm_messages.specs.declared.read.MessageType.TheVariants as type
use Rattle.comm_targets.specs.declared.kind.Kind.{Kind}
use Rattle.comm_targets.specs.declared.kind.Kind.TheVariants.{Opaque}
use Rattle.comm_core.specs.Machine.{Machine, Name, at}
use Rattle.comm_core.specs.declared.call.Call.{Call}
use Rattle.comm_core.specs.declared.call.Call.TheVariants as call
use Rattle.comm_script.specs.Command.{asked_by_message, asked_from}
use Rattle.comm_script.specs.Line.{Reading}
use Rattle.comm_script.specs.declared.asked.Request.{Request}
use Rattle.comm_script.specs.declared.asked.Request.TheVariants.{Change}
use Rattle.comm_c.specs.Subject.{target_of}

-- ---- which targets and comms are opaque

abbrev pub is_opaque : Option Kind → Bool
is_opaque (Some Opaque) = true
is_opaque _ = false

abbrev pub is_opaque_target : Machine → Name → Bool
is_opaque_target m name = is_opaque (option_map (λ r. r.kind) (at m.targets name))

abbrev pub is_opaque_at : Machine → Option Name → Bool
is_opaque_at m None = false
is_opaque_at m (Some target) = is_opaque_target m target

-- its target is
abbrev pub is_opaque_comm : Machine → Name → Bool
is_opaque_comm m id = is_opaque_at m (target_of m id)

-- ---- a message for one, as a call without its data and its buffers; none of any other message

abbrev pub nothing_in : Content
nothing_in = record { content = no_members; buffers = [] }

abbrev pub opaque_open : Machine → (id target : Option Name) → Option Call
opaque_open m (Some id) (Some target) =
    if is_opaque_target m target then Some (call.Open id target None nothing_in) else None
opaque_open m (Some id) None = None
opaque_open m None target = None

abbrev pub opaque_msg : Machine → Option Name → Option Call
opaque_msg m (Some id) = if is_opaque_comm m id then Some (call.Msg id nothing_in) else None
opaque_msg m None = None

abbrev pub opaque_close : Machine → Option Name → Option Call
opaque_close m (Some id) = if is_opaque_comm m id then Some (call.Close id) else None
opaque_close m None = None

-- the id of the comm that a message is about
abbrev pub comm_id_in : Members → Option Name
comm_id_in content = text (get_member (codes "comm_id") content)

abbrev pub opaque_call : Machine → MessageType → Members → Option Call
opaque_call m type.Open content = opaque_open m (comm_id_in content) (text (get_member (codes "target_name") content))
opaque_call m type.Msg content = opaque_msg m (comm_id_in content)
opaque_call m type.Close content = opaque_close m (comm_id_in content)
opaque_call m type.InfoRequest content = None

abbrev pub opaque_by : Machine → message.Reading (ℕ × MessageType) → message.Reading Members → Option (ℕ × Request)
opaque_by m (Ok head) (Ok content) = option_map (λ c. (head.0, Change c)) (opaque_call m head.1 content)
opaque_by m (Ok head) (Err fault) = None
opaque_by m (Err fault) content = None

abbrev pub opaque_in : Machine → Envelope → Option (ℕ × Request)
opaque_in m envelope = opaque_by m (heading 4 envelope) (object_of field.Content envelope.content)

-- ---- what a message asks for

abbrev pub opaque_or : Option (ℕ × Request) → Reading (ℕ × Request) → Reading (ℕ × Request)
opaque_or (Some opaque) reading = Ok opaque
opaque_or None reading = reading

-- Of an opaque target client, type, content, id and name were tested. Where one of them fails, it is the first test
-- that fails, as of any message.
abbrev pub asked_of : Machine → Numbers → Envelope → Reading (ℕ × Request)
asked_of m numbers envelope = opaque_or (opaque_in m envelope) (asked_from numbers 4 envelope)

-- whether a message that was read is for an opaque target, or for a comm of one
abbrev pub is_for_opaque : Machine → Incoming → Bool
is_for_opaque m (incoming.Open id target version body) = is_opaque_target m target
is_for_opaque m (incoming.Msg id body) = is_opaque_comm m id
is_for_opaque m (incoming.Close id) = is_opaque_comm m id
is_for_opaque m (incoming.InfoRequest target) = false

-- a message without its version, its data and its buffers
abbrev pub bare : Incoming → Incoming
bare (incoming.Open id target version body) = incoming.Open id target None nothing_in
bare (incoming.Msg id body) = incoming.Msg id nothing_in
bare (incoming.Close id) = incoming.Close id
bare (incoming.InfoRequest target) = incoming.InfoRequest target

-- what a message that was read asks for
abbrev pub asked_for : Machine → Incoming → Request
asked_for m message = asked_by_message (if is_for_opaque m message then bare message else message)

-- parts ask for this
abbrev pub AskedByParts : Machine → Numbers → (client : ℕ) → (header metadata content : List ℕ) → List (List ℕ)
    → ℕ × Request → Type 0
AskedByParts m numbers client header metadata content buffers asked =
    (e : Envelope) × (envelope_in client header metadata content buffers ≡ Ok e) × (asked_of m numbers e ≡ Ok asked)

-- ---- an open that can't be read

abbrev pub opening_by : message.Reading MessageType → message.Reading Members → Option Name
opening_by (Ok type.Open) (Ok content) = comm_id_in content
opening_by (Ok type.Open) (Err fault) = None
opening_by (Ok type.Msg) content = None
opening_by (Ok type.Close) content = None
opening_by (Ok type.InfoRequest) content = None
opening_by (Err fault) content = None

-- the id of the comm that a message opens, where the type and the id can be read
abbrev pub opening_in : Envelope → Option Name
opening_in envelope = opening_by (type_of envelope.header) (object_of field.Content envelope.content)
