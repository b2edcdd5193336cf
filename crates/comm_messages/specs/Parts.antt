-- The text of an outgoing message in parts, in the order in which they are written.
use Rattle.std.specs.Prelude.{◌≡◌, ℕ, List, [], ◌++◌, false, codes, decimal}
use Rattle.json.specs.Print.{quoted}
use Rattle.json.specs.Json.{array, object}
use Rattle.comm_json.specs.Text.{compact_text, items_text}
use Rattle.comm_messages.specs.Text.{parts_of, buffer_texts, texts}
use Rattle.comm_messages.specs.declared.infos.Info.{Info}
use Rattle.comm_messages.specs.declared.outgoing.Outgoing.{Outgoing}
use Rattle.comm_messages.specs.declared.outgoing.Parent.{Parent}
use Rattle.comm_messages.specs.declared.outgoing.Parent.TheVariants.{Call, Read}

-- the part was appended
pub record GrowsBy (old part new : List ℕ) : Type 0 where
  pub is : new ≡ old ++ part

abbrev pub buffers_text : Outgoing → List ℕ
buffers_text message = items_text false (buffer_texts (parts_of message).buffers)

abbrev pub parent_text : Parent → List ℕ
parent_text (Call client number) = codes ",\"call\":" ++ (decimal number ++ (codes ",\"client\":" ++ decimal client))
parent_text (Read client front) = codes ",\"client\":" ++ decimal client

abbrev pub front_text : Parent → List ℕ
front_text (Call client number) = []
front_text (Read client front) = codes ",\"front\":" ++ decimal front

abbrev pub content_text : Outgoing → List ℕ
content_text message = compact_text (object (parts_of message).content)

abbrev pub metadata_text : Outgoing → List ℕ
metadata_text message = compact_text (object (parts_of message).metadata)

-- the header, the metadata and the closing bracket
abbrev pub end_text : Outgoing → List ℕ
end_text message =
    codes ",\"header\":{\"msg_type\":" ++ (quoted (parts_of message).type
    ++ (codes "},\"metadata\":" ++ (metadata_text message ++ codes "}")))

-- a comm of a reply: its id, and its target's name
abbrev pub info_text : Info → List ℕ
info_text info = quoted info.id ++ (codes ":{\"target_name\":" ++ (quoted info.target ++ codes "}"))

-- ids as a JSON list of strings
abbrev pub ids_text : List (List ℕ) → List ℕ
ids_text ids = compact_text (array (texts ids))
