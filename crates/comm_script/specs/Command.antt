-- What a line asks for: a command of the kernel where its object has the key `call`, else a message of the frontend.
use Rattle.std.specs.Prelude.{ℕ, pos, List, Option, Some, None, option_and_then, Result, Ok, Err, codes, if◌then◌else◌}
use Rattle.std.specs.Prelude.{⊤}
use Rattle.std.specs.Str.{bytes_eq}
use Rattle.json.specs.Json.{Json, null, string, array, Members}
use Rattle.comm_json.specs.Behind.{get_member}
use Rattle.uuid.specs.Text.{parsed}
use Rattle.comm_value.specs.Tree.{Tree}
use Rattle.comm_value.specs.Tree as tree
use Rattle.comm_value.specs.Node.{Path}
use Rattle.comm_value.specs.FromJson.{tree_of}
use Rattle.comm_value.specs.declared.from_json.Numbers.{Numbers}
use Rattle.comm_value.specs.Paths.{read_paths}
use Rattle.comm_value.specs.Put.{placed_in}
use Rattle.comm_value.specs.declared.fault.ValueFault.{ValueFault}
use Rattle.comm_value.specs.declared.fault.ValueFault.TheVariants.{NotWhole}
use Rattle.comm_messages.specs.Buffers.{buffers_of}
use Rattle.comm_messages.specs.Fields.{object_in, object_or_empty, text, client_of, below}
use Rattle.comm_messages.specs.Gives as message
use Rattle.comm_messages.specs.Message.{message_from, dict_of, body_of, body_with}
use Rattle.comm_messages.specs.Envelope.{Envelope, of_line}
use Rattle.comm_messages.specs.declared.incoming.Incoming.{Incoming}
use Rattle.comm_messages.specs.declared.incoming.Incoming.TheVariants as incoming
use Rattle.comm_core.specs.declared.call.Call.TheVariants as call
use Rattle.comm_core.specs.Ready.{HandsNothingIn}
use Rattle.comm_script.specs.declared.stock.StockKind.{StockKind}
use Rattle.comm_script.specs.declared.stock.StockKind.TheVariants as stock_kind
use Rattle.comm_value.specs.Gives.{◌>>=◌, or_fault}
use Rattle.comm_script.specs.Line.{Reading, of_message}
use Rattle.comm_script.specs.declared.asked.Request.{Request}
use Rattle.comm_script.specs.declared.asked.Request.TheVariants.{Change, Register, Infos, State}
use Rattle.comm_script.specs.declared.asked.Key.{Key}
use Rattle.comm_script.specs.declared.asked.Key.TheVariants as key
use Rattle.comm_script.specs.declared.asked.LineFault.TheVariants.{UnknownCall, BadField, Value, BadUuid}

-- ---- fields

abbrev pub text_field : Key → List ℕ → Members → Reading (List ℕ)
text_field k name line = or_fault (BadField k) (text (get_member name line))

-- absent or null is an empty object
abbrev pub object_field : Key → List ℕ → Members → Reading Members
object_field k name line = or_fault (BadField k) (object_or_empty (get_member name line))

-- absent or null is an empty list
abbrev pub list_or_empty : Option Json → Reading ⊤
list_or_empty None = Ok tt
list_or_empty (Some null) = Ok tt
list_or_empty (Some (array ds)) = Ok tt
list_or_empty (Some _) = Err (BadField key.Buffers)

abbrev pub list_field : Members → Reading ⊤
list_field line = list_or_empty (get_member (codes "buffers") line)

abbrev pub kind_named : List ℕ → Option StockKind
kind_named name =
    if bytes_eq name (codes "echo") then Some stock_kind.Echo
    else if bytes_eq name (codes "counter") then Some stock_kind.Counter
    else if bytes_eq name (codes "widget") then Some stock_kind.Widget
    else if bytes_eq name (codes "widget_echo") then Some stock_kind.WidgetEcho
    else None

abbrev pub kind_field : Members → Reading StockKind
kind_field line = or_fault (BadField key.Kind) (option_and_then kind_named (text (get_member (codes "kind") line)))

-- ---- a state with its buffers at its paths

-- a fault of a value is one of the line
abbrev pub of_value : {A : Type 0} → Result A ValueFault → Reading A
of_value (Ok x) = Ok x
of_value (Err e) = Err (Value e)

abbrev pub placed_at : Result (List Path) ValueFault → List (List ℕ) → tree.Members → Reading tree.Members
placed_at paths buffers state = of_value (paths >>= (λ ps. placed_in ps buffers state))

-- ---- the commands

unfoldable pub register_in : Members → Reading Request
register_in line = do
  kind ← kind_field line
  name ← text_field key.Name (codes "name") line
  Ok (Register kind name)

abbrev pub unregister_in : Members → Reading Request
unregister_in line = text_field key.Name (codes "name") line >>= (λ name. Ok (Change (call.Unregister name)))

-- the UUID is read last
abbrev pub launched : List ℕ → List ℕ → tree.Members → Reading Request
launched name uuid state = or_fault BadUuid (parsed uuid) >>= (λ id. Ok (Change (call.Launch id name state)))

abbrev pub hang_up_in : Members → Reading Request
hang_up_in line = text_field key.Id (codes "id") line >>= (λ id. Ok (Change (call.HangUp id)))

abbrev pub state_read_in : Members → Reading Request
state_read_in line = text_field key.Id (codes "id") line >>= (λ id. Ok (State id))

-- a message of the frontend
abbrev pub asked_by_message : Incoming → Request
asked_by_message (incoming.Open id target version body) = Change (call.Open id target version body)
asked_by_message (incoming.Msg id body) = Change (call.Msg id body)
asked_by_message (incoming.Close id) = Change (call.Close id)
asked_by_message (incoming.InfoRequest target) = Infos target

-- an object by itself, as a call by its parts has it
abbrev pub object_part : Key → Json → Reading Members
object_part k value = or_fault (BadField k) (object_or_empty (Some value))

-- ---- what depends on which numbers are values

module _ (numbers : Numbers) where
  abbrev pub value_in : Option Json → Reading (Option Tree)
  value_in None = Ok None
  value_in (Some d) = or_fault (Value NotWhole) (tree_of numbers d) >>= (λ t. Ok (Some t))

  unfoldable pub state_with : Members → Option Json → message.Reading (List (List ℕ)) → Reading tree.Members
  state_with object paths buffers = do
    state ← of_message (dict_of numbers object)
    paths ← value_in paths
    buffers ← of_message buffers
    placed_at (read_paths paths) buffers state

  abbrev pub state_in : Members → Members → Reading tree.Members
  state_in object line =
      state_with object (get_member (codes "buffer_paths") line) (buffers_of (get_member (codes "buffers") line))

  unfoldable pub launch_in : Members → Reading Request
  launch_in line = do
    name ← text_field key.Name (codes "name") line
    uuid ← text_field key.Uuid (codes "uuid") line
    object ← object_field key.State (codes "state") line
    list ← list_field line
    state_in object line >>= launched name uuid

  unfoldable pub push_in : Members → Reading Request
  push_in line = do
    id ← text_field key.Id (codes "id") line
    object ← object_field key.State (codes "state") line
    list ← list_field line
    state ← state_in object line
    Ok (Change (call.Push id state))

  unfoldable pub send_in : Members → Reading Request
  send_in line = do
    id ← text_field key.Id (codes "id") line
    object ← object_field key.Data (codes "data") line
    list ← list_field line
    body ← of_message (body_of numbers object line)
    Ok (Change (call.Send id body))

  -- ---- the kernel's calls by their parts: a value that was read, and the buffers

  unfoldable pub launch_with : (name uuid : List ℕ) → (state paths : Json) → message.Reading (List (List ℕ))
      → Reading Request
  launch_with name uuid state paths buffers = do
    object ← object_part key.State state
    state_with object (Some paths) buffers >>= launched name uuid

  unfoldable pub push_with : List ℕ → (state paths : Json) → message.Reading (List (List ℕ)) → Reading Request
  push_with id state paths buffers = do
    object ← object_part key.State state
    state ← state_with object (Some paths) buffers
    Ok (Change (call.Push id state))

  unfoldable pub send_with : List ℕ → Json → message.Reading (List (List ℕ)) → Reading Request
  send_with id value buffers = do
    object ← object_part key.Data value
    body ← of_message (body_with numbers object buffers)
    Ok (Change (call.Send id body))

  abbrev pub command_named : List ℕ → Members → Reading Request
  command_named name line =
      if bytes_eq name (codes "register") then register_in line
      else if bytes_eq name (codes "unregister") then unregister_in line
      else if bytes_eq name (codes "launch") then launch_in line
      else if bytes_eq name (codes "push") then push_in line
      else if bytes_eq name (codes "send") then send_in line
      else if bytes_eq name (codes "hang_up") then hang_up_in line
      else if bytes_eq name (codes "state") then state_read_in line
      else Err UnknownCall

  abbrev pub command : Json → Members → Reading Request
  command (string name) line = command_named name line
  command _ line = Err UnknownCall

  -- what the message of an envelope asks for
  abbrev pub asked_from : ℕ → Envelope → Reading (ℕ × Request)
  asked_from clients envelope =
      of_message (message_from clients numbers envelope) >>= (λ m. Ok (m.0, asked_by_message m.1))

  abbrev pub asked_by : Option Json → ℕ → Members → Reading (ℕ × Request)
  asked_by None clients line = asked_from clients (of_line line)
  asked_by (Some name) clients line =
      of_message (client_of clients (get_member (codes "client") line))
      >>= (λ client. command name line >>= (λ asked. Ok (client, asked)))

  abbrev pub asked_in : ℕ → Members → Reading (ℕ × Request)
  asked_in clients line = asked_by (get_member (codes "call") line) clients line

  -- the client, and what it asks for
  abbrev pub asked : ℕ → List ℕ → Reading (ℕ × Request)
  asked clients bytes = of_message (object_in bytes) >>= asked_in clients

-- a client's request, where there is such a client
abbrev pub of_client : (clients client : ℕ) → Reading Request → Reading (ℕ × Request)
of_client clients client request =
    of_message (below clients (Some (pos client))) >>= (λ c. request >>= (λ asked. Ok (c, asked)))

-- a change that is asked for hands no target in: a register takes one out of the stock
abbrev pub HandsNothing : Request → Type 0
HandsNothing (Change c) = HandsNothingIn c
HandsNothing (Register kind name) = Unit {0}
HandsNothing (Infos target) = Unit {0}
HandsNothing (State id) = Unit {0}
