-- The lines that are written.
use Rattle.std.specs.Prelude.{ℕ, List, [], ◌∷◌, ◌++◌, Option, Some, None, codes, decimal}
use Rattle.json.specs.Json.{Json, array, object, no_members, member}
use Rattle.comm_json.specs.Text.{compact_text}
use Rattle.comm_value.specs.Tree.{Members}
use Rattle.comm_value.specs.ToJson.{json_of, json_members}
use Rattle.comm_value.specs.View.{tree}
use Rattle.comm_value.specs.Paths.{paths_tree}
use Rattle.comm_value.specs.Places.{member_paths, member_buffers, plain_members}
use Rattle.comm_value.specs.declared.fault.ValueFault.{ValueFault}
use Rattle.comm_value.specs.declared.fault.ValueFault.TheVariants as value
use Rattle.comm_messages.specs.Text.{text, texts, buffer_texts}
use Rattle.comm_messages.specs.declared.outgoing.Outgoing.{Outgoing}
use Rattle.comm_messages.specs.declared.outgoing.Parent.{Parent}
use Rattle.comm_messages.specs.declared.fault.Field.{Field}
use Rattle.comm_messages.specs.declared.fault.Field.TheVariants as field
use Rattle.comm_messages.specs.declared.fault.MessageFault.{MessageFault}
use Rattle.comm_messages.specs.declared.fault.MessageFault.TheVariants as message
use Rattle.comm_targets.specs.declared.answer.Custom.{Custom}
use Rattle.comm_targets.specs.declared.fault.TargetFault.{TargetFault}
use Rattle.comm_targets.specs.declared.fault.TargetFault.TheVariants as target
use Rattle.comm_core.specs.declared.reply.Reply.{Reply}
use Rattle.comm_core.specs.declared.reply.Reply.TheVariants as reply
use Rattle.comm_core.specs.declared.reply.Refusal.{Refusal}
use Rattle.comm_core.specs.declared.reply.Refusal.TheVariants as refusal
use Rattle.comm_core.specs.declared.reply.StateAnswer.{StateAnswer}
use Rattle.comm_core.specs.declared.reply.StateAnswer.TheVariants.{NoComm, NoState, State}
use Rattle.comm_script.specs.declared.asked.Key.{Key}
use Rattle.comm_script.specs.declared.asked.Key.TheVariants as key
use Rattle.comm_script.specs.declared.asked.LineFault.{LineFault}
use Rattle.comm_script.specs.declared.asked.LineFault.TheVariants.{Message, UnknownCall, BadField, Value, BadUuid}
use Rattle.comm_script.specs.declared.asked.LineFault.TheVariants.{NoStock}

-- ---- faults

abbrev pub target_words : TargetFault → List ℕ
target_words target.WrongVersion = codes "wrong_version"
target_words target.NoState = codes "no_state"
target_words target.BadState = codes "bad_state"
target_words (target.BadPath n) = codes "bad_path " ++ decimal n
target_words (target.BufferMissing n) = codes "buffer_missing " ++ decimal n
target_words target.NoMethod = codes "no_method"
target_words target.UnknownMethod = codes "unknown_method"
target_words (target.Other code) = codes "other " ++ decimal code
-- never written
target_words target.Memory = []

abbrev pub field_words : Field → List ℕ
field_words field.Content = codes "content"
field_words field.CommId = codes "comm_id"
field_words field.TargetName = codes "target_name"
field_words field.Body = codes "data"
field_words field.Metadata = codes "metadata"
field_words field.Buffers = codes "buffers"

abbrev pub message_words : MessageFault → List ℕ
message_words message.NotJson = codes "not_json"
message_words message.NoType = codes "no_type"
message_words message.UnknownType = codes "unknown_type"
message_words (message.BadContent part) = codes "bad_content " ++ field_words part
message_words message.NotWhole = codes "not_whole"
message_words (message.BadBuffer n) = codes "bad_buffer " ++ decimal n
message_words message.BadClient = codes "bad_client"
-- never written
message_words message.Memory = []

abbrev pub value_words : ValueFault → List ℕ
value_words value.NotWhole = codes "not_whole"
value_words (value.BadPath n) = codes "bad_path " ++ decimal n
value_words (value.BufferMissing n) = codes "buffer_missing " ++ decimal n
-- never written
value_words value.Memory = []

abbrev pub key_words : Key → List ℕ
key_words key.Kind = codes "kind"
key_words key.Name = codes "name"
key_words key.Uuid = codes "uuid"
key_words key.State = codes "state"
key_words key.Id = codes "id"
key_words key.Data = codes "data"
key_words key.Buffers = codes "buffers"

abbrev pub fault_words : LineFault → List ℕ
fault_words (Message fault) = message_words fault
fault_words UnknownCall = codes "unknown_call"
fault_words (BadField k) = codes "bad_field " ++ key_words k
fault_words (Value fault) = value_words fault
fault_words BadUuid = codes "bad_uuid"
fault_words NoStock = codes "no_stock"

-- ---- replies

abbrev pub custom_json : Custom → Json
custom_json custom = object
    (member (codes "buffers") (array (buffer_texts custom.buffers))
    (member (codes "content") (json_of (tree custom.content)) no_members))

abbrev pub refusal_words : Refusal → List ℕ
refusal_words refusal.NoTarget = codes "no_target"
refusal_words refusal.TooManyComms = codes "too_many_comms"
refusal_words (refusal.Fault fault) = target_words fault

abbrev pub delivered_words : Option Custom → List ℕ
delivered_words None = codes "delivered"
delivered_words (Some custom) = codes "custom " ++ compact_text (custom_json custom)

abbrev pub reply_words : Reply → List ℕ
reply_words reply.Registered = codes "registered"
reply_words (reply.Replaced ids) = codes "replaced " ++ compact_text (array (texts ids))
reply_words reply.Opened = codes "opened"
reply_words reply.IdInUse = codes "id_in_use"
reply_words (reply.OpenRefused why) = codes "refused " ++ refusal_words why
reply_words (reply.Delivered custom) = delivered_words custom
reply_words (reply.Fault fault) = codes "fault " ++ target_words fault
reply_words reply.NoComm = codes "no_comm"
reply_words reply.Closed = codes "closed"
reply_words (reply.Unregistered ids) = codes "unregistered " ++ compact_text (array (texts ids))
reply_words reply.NoTarget = codes "no_target"
reply_words reply.Launched = codes "launched"
reply_words reply.NotWidget = codes "not_widget"

-- the plain state, with its buffers and their paths
abbrev pub state_json : Members → Json
state_json s =
    object (member (codes "buffer_paths") (json_of (paths_tree (member_paths s)))
    (member (codes "buffers") (array (buffer_texts (member_buffers s)))
    (member (codes "state") (object (json_members (plain_members s))) no_members)))

-- the plain state and the paths of its buffers, which go beside it
abbrev pub state_content : Members → Json
state_content s =
    object (member (codes "buffer_paths") (json_of (paths_tree (member_paths s)))
    (member (codes "state") (object (json_members (plain_members s))) no_members))

abbrev pub state_words : StateAnswer → List ℕ
state_words NoComm = codes "no_comm"
state_words NoState = codes "no_state"
state_words (State s) = compact_text (state_json s)

-- ---- lines

-- a word, a number and more words
abbrev pub numbered : List ℕ → ℕ → List ℕ → List ℕ
numbered word n words = word ++ (decimal n ++ (32 ∷ (words ++ 10 ∷ [])))

-- of a change, by its number among all
abbrev pub reply_line : ℕ → Reply → List ℕ
reply_line n r = numbered (codes "reply ") n (reply_words r)

-- of a line that can't be read, by its number
abbrev pub bad_line : ℕ → LineFault → List ℕ
bad_line n fault = numbered (codes "bad ") n (fault_words fault)

-- of a state, by how many changes it was read after
abbrev pub state_line : ℕ → StateAnswer → List ℕ
state_line front answer = numbered (codes "state ") front (state_words answer)

abbrev pub out_line : Outgoing → Parent → List ℕ
out_line message parent = codes "out " ++ (text message parent ++ 10 ∷ [])

abbrev pub out_lines : List Outgoing → Parent → List ℕ
out_lines [] parent = []
out_lines (o ∷ os) parent = out_line o parent ++ out_lines os parent
