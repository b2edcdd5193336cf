-- A message that passes each test of its content, from what a walk has read.
use Rattle.std.proofs.Common.{subst, Result, Err, Bor, option_map, ◌<◌, ◌^◌, pos, true, nat_lt, decimal, option_and_then, ℕ, List, Option, Some, None, Ok, ◌≡◌, refl, sym, ap, ◌∙◌, codes}
use Rattle.json.specs.Json.{Json, Members, number, string}
use Rattle.comm_json.specs.Behind.{get_member, line_value, whole_of}
use Rattle.serde_json.specs.Find.{as_integer}
use Rattle.serde_json.proofs.Numbers.{number_of-decimal}
use Rattle.comm_value.specs.declared.from_json.Numbers.{Numbers}
use Rattle.std.specs.Prelude.{IfSome}
use Rattle.std.specs.Result.{result_ok}
use Rattle.comm_value.specs.Gives.{or_fault, ◌>>=◌}
use Rattle.comm_messages.specs.Gives.{Gives}
use Rattle.comm_messages.specs.declared.fault.MessageFault.{MessageFault}
use Rattle.comm_messages.specs.declared.fault.MessageFault.TheVariants.{NoType}
use Rattle.comm_messages.specs.Envelope.{Envelope, of_parts}
use Rattle.comm_messages.specs.Fields.{object_or_empty, text, text_or_none, client_of}
use Rattle.comm_messages.specs.Message.{close_in, info_request_in, incoming_in, msg_in, open_in, version_of, message_by_parts, message_from, heading, type_named, type_of}
use Rattle.comm_messages.specs.declared.incoming.Incoming.{Incoming}
use Rattle.comm_messages.specs.declared.incoming.Incoming.TheVariants.{Open, Msg, Close, InfoRequest}
use Rattle.comm_messages.specs.declared.read.MessageType.{MessageType}
use Rattle.comm_reader.specs.Reader.{HasContent, HasRest, IsType}
use Rattle.comm_reader.specs.declared.content.Content.{Content}

module _ (numbers : Numbers) (from : Envelope) (ms : Members) (content : Content) (version : Option (Bor (List ℕ))) (buffers : List (List ℕ)) (has : HasContent numbers content ms) (rest : HasRest from version buffers) where
  comm_id : (id : Bor (List ℕ)) → content.comm_id ≡ Some id → text (get_member (codes "comm_id") ms) ≡ Some id.now
  comm_id id is = ap text (has.comm_id ∙ ap (option_map (λ s. string s.now)) is)

  target_name : (name : Bor (List ℕ)) → content.target_name ≡ Some name → text (get_member (codes "target_name") ms) ≡ Some name.now
  target_name name is = ap text (has.target_name ∙ ap (option_map (λ s. string s.now)) is)

  pub opened : (id target : Bor (List ℕ)) → content.comm_id ≡ Some id → content.target_name ≡ Some target
      → open_in numbers from ms ≡ Ok (Open id.now target.now (option_map (λ s. s.now) version) (record { content = content.dict; buffers = buffers }))
  unfolding open_in
  opened id target is to = rw (comm_id id is, target_name target to, has.dict.1, rest.0.1, has.dict.2, rest.1, rest.0.2) refl

  pub sent : (id : Bor (List ℕ)) → content.comm_id ≡ Some id → msg_in numbers from ms ≡ Ok (Msg id.now (record { content = content.dict; buffers = buffers }))
  unfolding msg_in
  sent id is = rw (comm_id id is, has.dict.1, rest.0.1, has.dict.2, rest.1) refl

  pub closed : (id : Bor (List ℕ)) → content.comm_id ≡ Some id → close_in from ms ≡ Ok (Close id.now)
  unfolding close_in
  closed id is = rw (comm_id id is, has.dict.1, rest.0.1, rest.1) refl

  filter : (o : Option (Bor (List ℕ))) → text_or_none (option_map (λ s. string s.now) o) ≡ Some (option_map (λ s. s.now) o)
  filter None = refl
  filter (Some s) = refl

  pub asked_for : info_request_in from ms ≡ Ok (InfoRequest (option_map (λ s. s.now) content.target_name))
  unfolding info_request_in
  asked_for = rw (ap text_or_none has.target_name ∙ filter content.target_name, rest.0.1, rest.1) refl

pub message_is : (clients : ℕ) (numbers : Numbers) (from : Envelope) (content : Members) (client : ℕ) (type : MessageType) (incoming : Incoming) → client_of clients from.client ≡ Ok client → type_of from.header ≡ Ok type
    → object_or_empty from.content ≡ Some content → incoming_in numbers type from content ≡ Ok incoming → message_from clients numbers from ≡ Ok (client, incoming)
unfolding message_from heading
message_is clients numbers from content client type incoming c t o i = rw (c, t, o, i) refl

pub by_parts : (clients : ℕ) (numbers : Numbers) (client : ℕ) (header metadata content : List ℕ) (buffers : List (List ℕ)) (h m c : Json) → line_value header ≡ Some h → line_value metadata ≡ Some m → line_value content ≡ Some c
    → message_by_parts clients numbers client header metadata content buffers ≡ message_from clients numbers (of_parts client h m c buffers)
by_parts clients numbers client header metadata content buffers h m c is_h is_m is_c = rw (is_h, is_m, is_c) refl

pub client_is : (clients client : ℕ) → client < 2 ^ 64 → nat_lt client clients ≡ true → client_of clients (Some (number (decimal client))) ≡ Ok client
client_is clients client small below =
    let known : whole_of (decimal client) ≡ Some (pos client) = ap (option_and_then as_integer) (number_of-decimal client small) in
    rw (known, below) refl

-- a type that was told by its name
pub named : (r : Result MessageType MessageFault) (o : Option MessageType) (name : List ℕ) (P : MessageType → Type 0) (header : Members) → o ≡ result_ok r → get_member (codes "msg_type") header ≡ Some (string name) → Gives (λ t. t) r (type_named name)
    → ((t : MessageType) → IsType t header → P t) → IfSome o P
named (Ok t) o name P header same is h f = subst (λ o. IfSome o P) (sym same) (f t (ap (λ v. or_fault NoType (text v) >>= type_named) is ∙ h))
named (Err e) o name P header same is h f = subst (λ o. IfSome o P) (sym same) tt

pub text_of : (o : Option (Bor (List ℕ))) → text (option_map (λ s. string s.now) o) ≡ option_map (λ s. s.now) o
text_of None = refl
text_of (Some s) = refl
