-- The error text for a part of a message that has the wrong type.
use Rattle.std.specs.Prelude.{ℕ, List, codes}
use Rattle.comm_messages.specs.declared.fault.Field.{Field}
use Rattle.comm_messages.specs.declared.fault.Field.TheVariants.{Content, CommId, TargetName, Body, Metadata, Buffers}

abbrev pub field_text : Field → List ℕ
field_text Content = codes "`content` is not an object"
field_text CommId = codes "`comm_id` in `content` is not a text"
field_text TargetName = codes "`target_name` in `content` is not a text"
field_text Body = codes "`data` in `content` is not an object"
field_text Metadata = codes "`metadata` is not an object"
field_text Buffers = codes "`buffers` is not a list"
