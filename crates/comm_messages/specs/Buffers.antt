-- Binary buffers: in a line a list of strings in base64 (RFC 4648, section 4), with padding; beside it as bytes.
use Rattle.std.specs.Prelude.{ℕ, suc, List, [], ◌∷◌, take, drop, map, Option, Some, None, Ok, Err}
use Rattle.std.specs.Result.{result_ok}
use Rattle.base64.specs.GeneralPurpose.{decode_of}
use Rattle.base64.specs.Engines.{standard}
use Rattle.json.specs.Json.{Json, null, string, array, Items, no_items, item}
use Rattle.comm_value.specs.Gives.{or_fault, ◌>>=◌}
use Rattle.comm_messages.specs.Gives.{Reading}
use Rattle.comm_messages.specs.declared.fault.MessageFault.TheVariants.{BadContent, BadBuffer}
use Rattle.comm_messages.specs.declared.fault.Field.TheVariants.{Buffers}
use Rattle.comm_messages.specs.declared.raw_buffers.Frame.{Frame}
use Rattle.comm_messages.specs.declared.raw_buffers.RawBuffers.{RawBuffers}
use Rattle.comm_messages.specs.declared.raw_buffers.RawBuffers.TheVariants.{Joined, Frames}

-- the bytes that a string encodes
abbrev pub buffer_of : Json → Option (List ℕ)
buffer_of (string s) = result_ok (decode_of standard s)
buffer_of _ = None

-- the buffers from number n on
abbrev pub buffers_from : ℕ → Items → Reading (List (List ℕ))
buffers_from n no_items = Ok []
buffers_from n (item d ds) =
    or_fault (BadBuffer n) (buffer_of d) >>= (λ b. buffers_from (suc n) ds >>= (λ bs. Ok (b ∷ bs)))

-- absent or null is no buffer
abbrev pub buffers_of : Option Json → Reading (List (List ℕ))
buffers_of None = Ok []
buffers_of (Some null) = Ok []
buffers_of (Some (array ds)) = buffers_from 0 ds
buffers_of (Some _) = Err (BadContent Buffers)

-- the buffers of these sizes, out of bytes in which they stand one after another
abbrev pub split_buffers : List ℕ → List ℕ → List (List ℕ)
split_buffers bytes [] = []
split_buffers bytes (n ∷ ns) = take n bytes ∷ split_buffers (drop n bytes) ns

-- the buffers that lie apart
abbrev pub framed : List Frame → List (List ℕ)
framed frames = map (λ f. f.bytes.now) frames

abbrev pub raw_buffers : RawBuffers → List (List ℕ)
raw_buffers (Joined bytes sizes) = split_buffers bytes.now sizes.now
raw_buffers (Frames frames) = framed frames.now
