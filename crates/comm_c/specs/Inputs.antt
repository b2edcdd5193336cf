-- What each call asks for, or the first of its tests that fails: the sizes, then the names, then the JSON texts.
use Rattle.std.specs.Prelude.{ℕ, ◌==◌, List, length, Bool, true, false, Option, Some, None, Result, Ok, Err}
use Rattle.std.specs.Prelude.{if◌then◌else◌}
use Rattle.std.specs.List.{sum}
use Rattle.std.specs.Str.{is_utf8}
use Rattle.json.specs.Json.{Json}
use Rattle.comm_json.specs.Behind.{line_value}
use Rattle.comm_value.specs.Gives as any
use Rattle.comm_value.specs.Gives.{◌>>=◌, or_fault}
use Rattle.comm_value.specs.declared.from_json.Numbers.{Numbers}
use Rattle.comm_messages.specs.Buffers.{framed, split_buffers}
use Rattle.comm_messages.specs.Envelope.{Envelope}
use Rattle.comm_messages.specs.Gives as message
use Rattle.comm_messages.specs.Message.{envelope_in}
use Rattle.comm_messages.specs.declared.raw_buffers.Frame.{Frame}
use Rattle.comm_messages.specs.declared.raw_buffers.RawBuffers.{RawBuffers}
use Rattle.comm_messages.specs.declared.raw_buffers.RawBuffers.TheVariants.{Joined, Frames}
use Rattle.comm_core.specs.Machine.{Machine, Name}
use Rattle.comm_core.specs.declared.call.Call.TheVariants as call
use Rattle.comm_script.specs.Command.{asked, launch_with, of_client, push_with, send_with}
use Rattle.comm_script.specs.Line.{Reading}
use Rattle.comm_script.specs.Lines.{is_blank}
use Rattle.comm_script.specs.declared.asked.Request.{Request}
use Rattle.comm_script.specs.declared.asked.Request.TheVariants.{Change, State}
use Rattle.comm_c.specs.Opaque.{asked_of, opening_in}
use Rattle.comm_c.specs.declared.input.CallFault.{CallFault}
use Rattle.comm_c.specs.declared.input.CallFault.TheVariants.{Memory, BadName, BadSizes, NotJson}
use Rattle.comm_c.specs.declared.input.Input.{Input}

abbrev pub Tested : Type 0
Tested = Result Input CallFault

-- ---- what a function that reads gives; after out of memory nothing is known

abbrev pub is_memory : CallFault → Bool
is_memory Memory = true
is_memory _ = false

abbrev pub Gives : {X A : Type 0} → (X → A) → Result X CallFault → Result A CallFault → Type 0
Gives view result tested = any.Gives is_memory view result tested

-- ---- the tests

abbrev pub TestedBuffers : Type 0
TestedBuffers = Result (List (List ℕ)) CallFault

-- the buffers of these sizes, which add up to the bytes in which they stand one after another
abbrev pub buffers_tested : (buffers sizes : List ℕ) → TestedBuffers
buffers_tested buffers sizes =
    if sum sizes == length buffers then Ok (split_buffers buffers sizes) else Err BadSizes

-- frames fail no test
unfoldable pub frames_tested : List Frame → TestedBuffers
frames_tested frames = Ok (framed frames)

abbrev pub raw_tested : RawBuffers → TestedBuffers
raw_tested (Joined bytes sizes) = buffers_tested bytes.now sizes.now
raw_tested (Frames frames) = frames_tested frames.now

abbrev pub name_tested : List ℕ → Result Name CallFault
name_tested name = if is_utf8 name then Ok name else Err BadName

-- one JSON text, in UTF-8 (RFC 8259, 2 and 8.1)
abbrev pub json_tested : List ℕ → Result Json CallFault
json_tested text = or_fault NotJson (line_value text)

abbrev pub pair_tested : (first second : List ℕ) → Result (Json × Json) CallFault
pair_tested first second = json_tested first >>= (λ a. json_tested second >>= (λ b. Ok (a, b)))

-- the only test that parts can fail before they are an envelope is that they are JSON
abbrev pub envelope_tested : message.Reading Envelope → Result Envelope CallFault
envelope_tested (Ok envelope) = Ok envelope
envelope_tested (Err fault) = Err NotJson

-- ---- inputs

-- what a call of the kernel was read as
abbrev pub input_of : Reading (ℕ × Request) → Input
input_of reading = record { asked = Some reading; opening = None }

-- what a frontend's message was read as
abbrev pub message_read : Reading (ℕ × Request) → Envelope → Input
message_read (Ok m) envelope = record { asked = Some (Ok m); opening = None }
message_read (Err fault) envelope = record { asked = Some (Err fault); opening = opening_in envelope }

-- by whether the line is blank
abbrev pub line_asked : Bool → Numbers → List ℕ → Option (Reading (ℕ × Request))
line_asked true numbers line = None
line_asked false numbers line = Some (asked numbers 4 line)

abbrev pub line_input : Numbers → List ℕ → Input
line_input numbers line = record { asked = line_asked (is_blank line) numbers line; opening = None }

abbrev pub envelope_input : Machine → Numbers → Envelope → Input
envelope_input m numbers envelope = message_read (asked_of m numbers envelope) envelope

-- ---- calls

unfoldable pub message_input : Machine → Numbers → (client : ℕ) → (header metadata content : List ℕ) → TestedBuffers
    → Tested
message_input m numbers client header metadata content tested = do
  buffers ← tested
  envelope ← envelope_tested (envelope_in client header metadata content buffers)
  Ok (envelope_input m numbers envelope)

unfoldable pub launch_input : Numbers → (client : ℕ) → (target uuid state paths : List ℕ) → TestedBuffers → Tested
launch_input numbers client target uuid state paths tested = do
  buffers ← tested
  name ← name_tested target
  id ← name_tested uuid
  values ← pair_tested state paths
  Ok (input_of (of_client 4 client (launch_with numbers name id values.0 values.1 (Ok buffers))))

unfoldable pub push_input : Numbers → (client : ℕ) → (id state paths : List ℕ) → TestedBuffers → Tested
push_input numbers client id state paths tested = do
  buffers ← tested
  name ← name_tested id
  values ← pair_tested state paths
  Ok (input_of (of_client 4 client (push_with numbers name values.0 values.1 (Ok buffers))))

unfoldable pub send_input : Numbers → (client : ℕ) → (id content : List ℕ) → TestedBuffers → Tested
send_input numbers client id content tested = do
  buffers ← tested
  name ← name_tested id
  value ← json_tested content
  Ok (input_of (of_client 4 client (send_with numbers name value (Ok buffers))))

unfoldable pub close_input : (client : ℕ) → (id : List ℕ) → Tested
close_input client id = name_tested id >>= (λ name. Ok (input_of (of_client 4 client (Ok (Change (call.HangUp name))))))

unfoldable pub unregister_input : (client : ℕ) → (name : List ℕ) → Tested
unregister_input client name =
    name_tested name >>= (λ target. Ok (input_of (of_client 4 client (Ok (Change (call.Unregister target))))))

-- a state is read for no client
unfoldable pub state_input : (id : List ℕ) → Tested
state_input id = name_tested id >>= (λ name. Ok (input_of (Ok (0, State name))))
