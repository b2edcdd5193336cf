-- The fields of a line's object, and what may stand in them (RFC 8259, sections 2 to 8).
use Rattle.std.specs.Prelude.{ℕ, ℤ, pos, negsuc, nat_lt, if◌then◌else◌, List, Ok, Err}
use Rattle.std.specs.Prelude.{Option, Some, None, option_map, option_and_then}
use Rattle.std.specs.Borrow.{Bor}
use Rattle.json.specs.Json.{Json, null, string, object, Members, no_members}
use Rattle.json.specs.Find.{as_number}
use Rattle.json.specs.Value.{members_view}
use Rattle.json.specs.declared.value.Value.{Value}
use Rattle.comm_json.specs.Behind.{members, tidy_members, whole_of, line_value}
use Rattle.comm_json.specs.Behind.{behind as of_ref}
use Rattle.comm_json.specs.declared.json_ref.JsonRef.{JsonRef}
use Rattle.comm_json.specs.declared.json_ref.ObjectRef.{ObjectRef}
use Rattle.comm_value.specs.Gives.{or_fault}
use Rattle.comm_messages.specs.Gives.{Reading}
use Rattle.comm_messages.specs.declared.fault.MessageFault.TheVariants.{NotJson, BadClient}

-- JSON behind a reference, as data
abbrev pub behind : Option JsonRef → Option Json
behind o = option_map of_ref o

-- the members of an object, or none
abbrev pub fields : Option ObjectRef → Members
fields None = no_members
fields (Some o) = members o

-- the members of a line's object that was read
abbrev pub read_fields : {A : Type 0} → List (Bor (List ℕ) × Value A) → Members
read_fields ms = tidy_members (members_view ms) no_members

abbrev pub members_in : Json → Option Members
members_in (object ms) = Some ms
members_in _ = None

-- of a value that isn't an object, none
abbrev pub fields_of : Json → Members
fields_of (object ms) = ms
fields_of _ = no_members

-- the JSON object that a line is: UTF-8, and one value with nothing after it
abbrev pub object_in : List ℕ → Reading Members
object_in bytes = or_fault NotJson (option_and_then members_in (line_value bytes))

-- absent or null is an empty object
abbrev pub object_or_empty : Option Json → Option Members
object_or_empty None = Some no_members
object_or_empty (Some null) = Some no_members
object_or_empty (Some (object ms)) = Some ms
object_or_empty (Some _) = None

abbrev pub text : Option Json → Option (List ℕ)
text (Some (string s)) = Some s
text _ = None

-- absent or null is no text
abbrev pub text_or_none : Option Json → Option (Option (List ℕ))
text_or_none None = Some None
text_or_none (Some null) = Some None
text_or_none (Some (string s)) = Some (Some s)
text_or_none (Some _) = None

-- a whole number below the number of clients; absent or null is the first client
abbrev pub below : ℕ → Option ℤ → Reading ℕ
below clients None = Err BadClient
below clients (Some (negsuc n)) = Err BadClient
below clients (Some (pos n)) = if nat_lt n clients then Ok n else Err BadClient

abbrev pub client_of : ℕ → Option Json → Reading ℕ
client_of clients None = Ok 0
client_of clients (Some null) = Ok 0
client_of clients (Some d) = below clients (option_and_then whole_of (as_number d))
