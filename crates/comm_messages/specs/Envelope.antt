-- What a message is read from: the members of a line, or the parts that a caller hands in.
use Rattle.std.specs.Prelude.{ℕ, List, Option, Some, Ok, codes, decimal}
use Rattle.json.specs.Json.{Json, Members, number}
use Rattle.json.specs.Value.{value_view}
use Rattle.serde_json.specs.View.{view}
use Rattle.serde_json.specs.Written.{outline}
use Rattle.comm_json.specs.Behind.{get_member, tidy}
use Rattle.comm_messages.specs.Gives.{Reading}
use Rattle.comm_messages.specs.Fields.{behind}
use Rattle.comm_messages.specs.Buffers.{buffers_of, raw_buffers}
use Rattle.comm_messages.specs.declared.envelope.BuffersRef.{BuffersRef}
use Rattle.comm_messages.specs.declared.envelope.BuffersRef.TheVariants.{Encoded, Raw}
use Rattle.comm_messages.specs.declared.envelope.EnvelopeRef.{EnvelopeRef}
use Rattle.comm_messages.specs.declared.parts.ParsedParts.{ParsedParts}

-- the buffers are read, or the test that they fail
pub record Envelope : Type 0 where
  pub client : Option Json
  pub header : Option Json
  pub content : Option Json
  pub metadata : Option Json
  pub buffers : Reading (List (List ℕ))

-- a line has its buffers in base64
abbrev pub of_line : Members → Envelope
of_line line = record {
  client = get_member (codes "client") line;
  header = get_member (codes "header") line;
  content = get_member (codes "content") line;
  metadata = get_member (codes "metadata") line;
  buffers = buffers_of (get_member (codes "buffers") line);
}

-- parts have their buffers as bytes, which fail no test
abbrev pub of_parts : ℕ → (header metadata content : Json) → List (List ℕ) → Envelope
of_parts client header metadata content buffers = record {
  client = Some (number (decimal client));
  header = Some header;
  content = Some content;
  metadata = Some metadata;
  buffers = Ok buffers;
}

-- ---- behind references

abbrev pub buffers_in : BuffersRef → Reading (List (List ℕ))
buffers_in (Encoded value) = buffers_of (behind value)
buffers_in (Raw buffers) = Ok (raw_buffers buffers)

abbrev pub envelope : EnvelopeRef → Envelope
envelope e = record {
  client = behind e.client;
  header = behind e.header;
  content = behind e.content;
  metadata = behind e.metadata;
  buffers = buffers_in e.buffers;
}

-- parts whose JSON texts were parsed
abbrev pub parsed : ParsedParts → Envelope
parsed p = record {
  client = Some (outline (view p.client));
  header = Some (tidy (value_view p.header));
  content = Some (tidy (value_view p.content));
  metadata = Some (tidy (value_view p.metadata));
  buffers = Ok (raw_buffers p.buffers);
}
