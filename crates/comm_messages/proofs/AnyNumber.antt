-- No line is NotWhole where any number is taken, and no parts are.
use Rattle.std.proofs.Common.{◌≡◌, ℕ, suc, ℤ, pos, negsuc, List, [], ◌∷◌, Bool, true, false, cond}
use Rattle.std.proofs.Common.{Option, Some, None, Ok, Err, refl, sym, ap, ◌∙◌, subst}
use Rattle.std.specs.Prelude.{⊤, is_some, option_and_then, codes, nat_lt}
use Rattle.std.specs.Str.{bytes_eq}
use Rattle.json.specs.Json.{Json, null, boolean, number, string, array, object, Items, no_items, item, Members, no_members, member}
use Rattle.json.specs.Find.{as_number}
use Rattle.comm_json.specs.Behind.{get_member, whole_of, line_value}
use Rattle.comm_json.specs.Numbers.{NumbersInRange, MembersInRange}
use Rattle.comm_json.proofs.LineNumbers.{IfFound, in_line, in_member}
use Rattle.comm_value.specs.Gives.{or_fault, ◌>>=◌}
use Rattle.comm_value.specs.FromJson.{members_of}
use Rattle.comm_value.specs.Tree as tree
use Rattle.comm_value.specs.declared.from_json.Numbers.TheVariants.{Any}
use Rattle.comm_value.proofs.AnyNumber.{members_taken}
use Rattle.comm_messages.specs.Gives.{Reading}
use Rattle.comm_messages.specs.Content.{Content}
use Rattle.comm_messages.specs.Fields.{members_in, object_in, object_or_empty, text, text_or_none, below, client_of}
use Rattle.comm_messages.specs.Buffers.{buffer_of, buffers_from, buffers_of}
use Rattle.comm_messages.specs.Envelope.{Envelope, of_line, of_parts}
use Rattle.comm_messages.specs.Message.{type_named, type_of, heading, text_at, object_of, object_at, dict_of, body_with, open_in}
use Rattle.comm_messages.specs.Message.{msg_in, unused_in, close_in, filter_at, info_request_in, incoming_in, message_from}
use Rattle.comm_messages.specs.Message.{message_in, message, envelope_in, message_by_parts}
use Rattle.comm_messages.specs.declared.fault.Field.{Field}
use Rattle.comm_messages.specs.declared.fault.Field.TheVariants as field
use Rattle.comm_messages.specs.declared.fault.MessageFault.{MessageFault}
use Rattle.comm_messages.specs.declared.fault.MessageFault.TheVariants.{NotJson, NoType, UnknownType, BadContent, BadBuffer, BadClient, NotWhole}
use Rattle.comm_messages.specs.declared.incoming.Incoming.{Incoming}
use Rattle.comm_messages.specs.declared.read.MessageType.{MessageType}
use Rattle.comm_messages.specs.declared.read.MessageType.TheVariants as type

-- ---- readings that aren't NotWhole, whose values satisfy P

abbrev Fine : {A : Type 0} → (A → Type 0) → Reading A → Type 0
Fine P (Ok x) = P x
Fine P (Err e) = e ≡ NotWhole → ⊥

abbrev anything : {A : Type 0} → A → Type 0
anything x = ⊤

then : {A B : Type 0} (P : A → Type 0) (Q : B → Type 0) (r : Reading A) (f : A → Reading B) → Fine P r
    → ((x : A) → P x → Fine Q (f x)) → Fine Q (r >>= f)
then P Q (Ok x) f h next = next x h
then P Q (Err e) f h next = h

-- where P says all that is needed of what is found
abbrev IfThere : {A : Type 0} → (A → Type 0) → Option A → Type 0
IfThere P None = ⊤
IfThere P (Some x) = P x

or_other : {A : Type 0} (P : A → Type 0) (e : MessageFault) (o : Option A) → (e ≡ NotWhole → ⊥) → IfThere P o
    → Fine P (or_fault e o)
or_other P e None other h = other
or_other P e (Some x) other h = h

there : {A : Type 0} (o : Option A) → IfThere anything o
there None = tt
there (Some x) = tt

choice : {A : Type 0} (P : A → Type 0) (b : Bool) (r s : Reading A) → Fine P r → Fine P s → Fine P (cond b r s)
choice P true r s h k = h
choice P false r s h k = k

not_json : NotJson ≡ NotWhole → ⊥
not_json e = cc

no_type : NoType ≡ NotWhole → ⊥
no_type e = cc

unknown_type : UnknownType ≡ NotWhole → ⊥
unknown_type e = cc

bad_client : BadClient ≡ NotWhole → ⊥
bad_client e = cc

bad_content : (f : Field) → BadContent f ≡ NotWhole → ⊥
bad_content f e = cc

bad_buffer : (n : ℕ) → BadBuffer n ≡ NotWhole → ⊥
bad_buffer n e = cc

-- ---- the parts that have no numbers among their values

named : (name : List ℕ) → Fine anything (type_named name)
named name =
    choice anything (bytes_eq name (codes "comm_open")) _ _ tt
    (choice anything (bytes_eq name (codes "comm_msg")) _ _ tt
    (choice anything (bytes_eq name (codes "comm_close")) _ _ tt
    (choice anything (bytes_eq name (codes "comm_info_request")) _ _ tt unknown_type)))

abbrev name_in : Option Json → Option (List ℕ)
name_in header = option_and_then (λ ms. text (get_member (codes "msg_type") ms)) (option_and_then members_in header)

typed : (header : Option Json) → Fine anything (type_of header)
typed header =
    then anything anything (or_fault NoType (name_in header)) type_named
    (or_other anything NoType (name_in header) no_type (there (name_in header))) (λ name _. named name)

client_below : (clients : ℕ) (o : Option ℤ) → Fine anything (below clients o)
client_below clients None = bad_client
client_below clients (Some (negsuc n)) = bad_client
client_below clients (Some (pos n)) = choice anything (nat_lt n clients) (Ok n) (Err BadClient) tt bad_client

client_read : (clients : ℕ) (o : Option Json) → Fine anything (client_of clients o)
client_read clients None = tt
client_read clients (Some null) = tt
client_read clients (Some (boolean b)) = bad_client
client_read clients (Some (number s)) = client_below clients (whole_of s)
client_read clients (Some (string s)) = bad_client
client_read clients (Some (array js)) = bad_client
client_read clients (Some (object ms)) = bad_client

head_read : (clients : ℕ) (e : Envelope) → Fine anything (heading clients e)
unfolding heading
head_read clients e =
    then anything anything (client_of clients e.client) _ (client_read clients e.client)
    (λ client _. then anything anything (type_of e.header) _ (typed e.header) (λ type _. tt))

text_read : (f : Field) (key : List ℕ) (ms : Members) → Fine anything (text_at f key ms)
text_read f key ms =
    or_other anything (BadContent f) (text (get_member key ms)) (bad_content f) (there (text (get_member key ms)))

buffers_read_from : (n : ℕ) (js : Items) → Fine anything (buffers_from n js)
buffers_read_from n no_items = tt
buffers_read_from n (item j js) =
    then anything anything (or_fault (BadBuffer n) (buffer_of j)) _
    (or_other anything (BadBuffer n) (buffer_of j) (bad_buffer n) (there (buffer_of j)))
    (λ b _. then anything anything (buffers_from (suc n) js) _ (buffers_read_from (suc n) js) (λ bs _. tt))

buffers_read : (o : Option Json) → Fine anything (buffers_of o)
buffers_read None = tt
buffers_read (Some null) = tt
buffers_read (Some (boolean b)) = bad_content field.Buffers
buffers_read (Some (number s)) = bad_content field.Buffers
buffers_read (Some (string s)) = bad_content field.Buffers
buffers_read (Some (array js)) = buffers_read_from 0 js
buffers_read (Some (object ms)) = bad_content field.Buffers

-- ---- objects, whose numbers are in range

members_there : (o : Option Json) → IfFound o → IfThere MembersInRange (object_or_empty o)
members_there None h = tt
members_there (Some null) h = tt
members_there (Some (boolean b)) h = tt
members_there (Some (number s)) h = tt
members_there (Some (string s)) h = tt
members_there (Some (array js)) h = tt
members_there (Some (object ms)) h = h

value_read : (f : Field) (value : Option Json) → IfFound value → Fine MembersInRange (object_of f value)
value_read f value h =
    or_other MembersInRange (BadContent f) (object_or_empty value) (bad_content f) (members_there value h)

object_read : (f : Field) (key : List ℕ) (ms : Members) → MembersInRange ms → Fine MembersInRange (object_at f key ms)
object_read f key ms h = value_read f (get_member key ms) (in_member key ms h)

taken_at : (o : Option tree.Members) → is_some o ≡ true → Fine anything (or_fault NotWhole o)
taken_at None h = cc
taken_at (Some ms) h = tt

dict_read : (ms : Members) → MembersInRange ms → Fine anything (dict_of Any ms)
dict_read ms h = taken_at (members_of Any ms) (members_taken ms h)

abbrev body : tree.Members → List (List ℕ) → Reading Content
body content buffers = Ok (record { content = content; buffers = buffers })

abbrev with_buffers : Reading (List (List ℕ)) → tree.Members → Reading Content
with_buffers buffers content = buffers >>= body content

body_read : (ms : Members) (buffers : Reading (List (List ℕ))) → MembersInRange ms → Fine anything buffers
    → Fine anything (body_with Any ms buffers)
body_read ms buffers h k =
    then anything anything (dict_of Any ms) (with_buffers buffers) (dict_read ms h)
    (λ content _. then anything anything buffers (body content) k (λ bs _. tt))

-- ---- messages

-- the numbers of its objects are in range
record InRange (e : Envelope) : Type 0 where
  pub content : IfFound e.content
  pub metadata : IfFound e.metadata
  pub buffers : Fine anything e.buffers

open_read : (e : Envelope) (content : Members) → InRange e → MembersInRange content → Fine anything (open_in Any e content)
unfolding open_in
open_read e content h k =
    then anything anything (text_at field.CommId (codes "comm_id") content) _
    (text_read field.CommId (codes "comm_id") content)
    (λ id _. then anything anything (text_at field.TargetName (codes "target_name") content) _
    (text_read field.TargetName (codes "target_name") content)
    (λ target _. then MembersInRange anything (object_at field.Body (codes "data") content) _
    (object_read field.Body (codes "data") content k)
    (λ dict d. then MembersInRange anything (object_of field.Metadata e.metadata) _
    (value_read field.Metadata e.metadata h.metadata)
    (λ metadata _. then anything anything (body_with Any dict e.buffers) _ (body_read dict e.buffers d h.buffers)
    (λ body _. tt)))))

msg_read : (e : Envelope) (content : Members) → InRange e → MembersInRange content → Fine anything (msg_in Any e content)
unfolding msg_in
msg_read e content h k =
    then anything anything (text_at field.CommId (codes "comm_id") content) _
    (text_read field.CommId (codes "comm_id") content)
    (λ id _. then MembersInRange anything (object_at field.Body (codes "data") content) _
    (object_read field.Body (codes "data") content k)
    (λ dict d. then MembersInRange anything (object_of field.Metadata e.metadata) _
    (value_read field.Metadata e.metadata h.metadata)
    (λ metadata _. then anything anything (body_with Any dict e.buffers) _ (body_read dict e.buffers d h.buffers)
    (λ body _. tt))))

unused_read : (e : Envelope) → InRange e → Fine anything (unused_in e)
unused_read e h =
    then MembersInRange anything (object_of field.Metadata e.metadata) (λ metadata. e.buffers)
    (value_read field.Metadata e.metadata h.metadata) (λ metadata _. h.buffers)

close_read : (e : Envelope) (content : Members) → InRange e → MembersInRange content → Fine anything (close_in e content)
unfolding close_in
close_read e content h k =
    then anything anything (text_at field.CommId (codes "comm_id") content) _
    (text_read field.CommId (codes "comm_id") content)
    (λ id _. then MembersInRange anything (object_at field.Body (codes "data") content) _
    (object_read field.Body (codes "data") content k)
    (λ dict _. then anything anything (unused_in e) _ (unused_read e h) (λ unused _. tt)))

info_request_read : (e : Envelope) (content : Members) → InRange e → Fine anything (info_request_in e content)
unfolding info_request_in
info_request_read e content h =
    then anything anything (filter_at (codes "target_name") content) _
    (or_other anything (BadContent field.TargetName) (text_or_none (get_member (codes "target_name") content))
    (bad_content field.TargetName) (there (text_or_none (get_member (codes "target_name") content))))
    (λ target _. then anything anything (unused_in e) _ (unused_read e h) (λ unused _. tt))

incoming_read : (t : MessageType) (e : Envelope) (content : Members) → InRange e → MembersInRange content
    → Fine anything (incoming_in Any t e content)
incoming_read type.Open e content h k = open_read e content h k
incoming_read type.Msg e content h k = msg_read e content h k
incoming_read type.Close e content h k = close_read e content h k
incoming_read type.InfoRequest e content h k = info_request_read e content h

envelope_read : (clients : ℕ) (e : Envelope) → InRange e → Fine anything (message_from clients Any e)
unfolding message_from
envelope_read clients e h =
    then anything anything (heading clients e) _ (head_read clients e)
    (λ head _. then MembersInRange anything (object_of field.Content e.content) _
    (value_read field.Content e.content h.content)
    (λ content k. then anything anything (incoming_in Any head.1 e content) _
    (incoming_read head.1 e content h k) (λ i _. tt)))

-- ---- a line

members_in_range : (line : Members) → MembersInRange line → InRange (of_line line)
members_in_range line h = record {
  content = in_member (codes "content") line h;
  metadata = in_member (codes "metadata") line h;
  buffers = buffers_read (get_member (codes "buffers") line);
}

members_found : (o : Option Json) → IfFound o → IfThere MembersInRange (option_and_then members_in o)
members_found None h = tt
members_found (Some null) h = tt
members_found (Some (boolean b)) h = tt
members_found (Some (number s)) h = tt
members_found (Some (string s)) h = tt
members_found (Some (array js)) h = tt
members_found (Some (object ms)) h = h

value_found : (o : Option Json) → ((j : Json) → o ≡ Some j → NumbersInRange j) → IfFound o
value_found None h = tt
value_found (Some j) h = h j refl

line_read : (clients : ℕ) (line : List ℕ) → Fine anything (message clients Any line)
line_read clients line =
    then MembersInRange anything (object_in line) (message_in clients Any)
    (or_other MembersInRange NotJson (option_and_then members_in (line_value line)) not_json
    (members_found (line_value line) (value_found (line_value line) (in_line line))))
    (λ ms h. envelope_read clients (of_line ms) (members_in_range ms h))

-- ---- parts

value_there : (o : Option Json) → IfFound o → IfThere NumbersInRange o
value_there None h = tt
value_there (Some j) h = h

json_read : (text : List ℕ) → Fine NumbersInRange (or_fault NotJson (line_value text))
json_read text =
    or_other NumbersInRange NotJson (line_value text) not_json
    (value_there (line_value text) (value_found (line_value text) (in_line text)))

parts_read : (clients client : ℕ) (header metadata content : List ℕ) (buffers : List (List ℕ))
    → Fine anything (message_by_parts clients Any client header metadata content buffers)
parts_read clients client header metadata content buffers =
    then InRange anything (envelope_in client header metadata content buffers) (message_from clients Any)
    (then NumbersInRange InRange (or_fault NotJson (line_value header)) _ (json_read header)
    (λ a _. then NumbersInRange InRange (or_fault NotJson (line_value metadata)) _ (json_read metadata)
    (λ b in_b. then NumbersInRange InRange (or_fault NotJson (line_value content)) _ (json_read content)
    (λ c in_c. record { content = in_c; metadata = in_b; buffers = tt }))))
    (λ e h. envelope_read clients e h)

other_fault : {A : Type 0} (r : Reading A) → Fine anything r → r ≡ Err NotWhole → ⊥
other_fault (Ok x) h e = cc
other_fault (Err fault) h e = h (cc)

pub never_not_whole : (clients : ℕ) (line : List ℕ) → message clients Any line ≡ Err NotWhole → ⊥
never_not_whole clients line = other_fault _ (line_read clients line)

pub never_not_whole_by_parts : (clients client : ℕ) (header metadata content : List ℕ) (buffers : List (List ℕ))
    → message_by_parts clients Any client header metadata content buffers ≡ Err NotWhole → ⊥
never_not_whole_by_parts clients client header metadata content buffers =
    other_fault _ (parts_read clients client header metadata content buffers)
