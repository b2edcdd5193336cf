-- A message by its parts that is read in one walk.
use Rattle.std.proofs.Common.{◌≡◌, ◌<◌, ℕ, List, Bool, true, false, Option, Some, None, Result, Ok, Err, refl, sym, ap, subst, ◌∙◌, codes}
use Rattle.std.specs.Prelude.{⊤}
use Rattle.std.specs.Result.{result_ok}
use Rattle.json.specs.Json.{Members}
use Rattle.comm_json.specs.Behind.{get_member}
use Rattle.comm_value.specs.Gives.{◌>>=◌, or_fault}
use Rattle.comm_value.specs.declared.from_json.Numbers.{Numbers}
use Rattle.comm_messages.specs.Envelope.{Envelope}
use Rattle.comm_messages.specs.Fields.{text}
use Rattle.comm_messages.specs.Gives.{Reading}
use Rattle.comm_messages.specs.Message.{body_with, close_in, envelope_in, filter_at, heading, incoming_in, info_request_in, message_by_parts, message_from, msg_in, object_at, object_of, open_in, text_at, unused_in}
use Rattle.comm_messages.specs.declared.fault.Field.TheVariants as field
use Rattle.comm_messages.specs.declared.incoming.Incoming.{Incoming}
use Rattle.comm_messages.specs.declared.read.MessageType.{MessageType}
use Rattle.comm_messages.specs.declared.read.MessageType.TheVariants as type
use Rattle.comm_core.specs.Machine.{Machine, Name}
use Rattle.comm_core.specs.declared.call.Call.{Call}
use Rattle.comm_core.specs.declared.call.Call.TheVariants as call
use Rattle.comm_script.specs.Command.{asked_by_message, asked_from}
use Rattle.comm_script.specs.declared.asked.Request.TheVariants.{Change}
use Rattle.comm_script.specs.Line.{of_message}
use Rattle.comm_c.specs.Opaque.{AskedByParts, asked_for, asked_of, bare, is_for_opaque, is_opaque_comm, is_opaque_target, nothing_in, opaque_by, opaque_call, opaque_close, opaque_in, opaque_msg, opaque_open, opaque_or}

-- ---- what came before an answer

abbrev IsFault : {A F : Type 0} → Result A F → Type 0
IsFault (Ok x) = ⊥
IsFault (Err fault) = ⊤

ok_same : {A F : Type 0} {x y : A} → ◌≡◌ {A = Result A F} (Ok x) (Ok y) → x ≡ y
ok_same h = cc

bound : {A B F : Type 0} (r : Result A F) (f : A → Result B F) (y : B) → (r >>= f) ≡ Ok y → (x : A) × (r ≡ Ok x) × (f x ≡ Ok y)
bound (Ok x) f y h = (x, refl, h)
bound (Err fault) f y h = absurd (subst IsFault h tt)

there : {A F : Type 0} (fault : F) (o : Option A) (x : A) → or_fault fault o ≡ Ok x → o ≡ Some x
there fault (Some a) x h = ap result_ok h
there fault None x h = absurd (subst IsFault h tt)

-- ---- no call for an opaque target

module _ (m : Machine) where
  no_open : (i t : Option Name) (id target : Name) → i ≡ Some id → t ≡ Some target → is_opaque_target m target ≡ false → opaque_open m i t ≡ None
  no_open i t id target is to plain = rw (is, to, plain) refl

  no_msg : (i : Option Name) (id : Name) → i ≡ Some id → is_opaque_comm m id ≡ false → opaque_msg m i ≡ None
  no_msg i id is plain = rw (is, plain) refl

  no_close : (i : Option Name) (id : Name) → i ≡ Some id → is_opaque_comm m id ≡ false → opaque_close m i ≡ None
  no_close i id is plain = rw (is, plain) refl

  no_call : (h : Reading (ℕ × MessageType)) (c : Reading Members) (head : ℕ × MessageType) (content : Members) → h ≡ Ok head → c ≡ Ok content → opaque_call m head.1 content ≡ None → opaque_by m h c ≡ None
  no_call h c head content is has none = rw (is, has, none) refl

asks : (numbers : Numbers) (e : Envelope) (r : ℕ × Incoming) → message_from 4 numbers e ≡ Ok r → asked_from numbers 4 e ≡ Ok (r.0, asked_by_message r.1)
asks numbers e r is = rw is refl

-- ---- the message is for no opaque target

module _ (m : Machine) (numbers : Numbers) (e : Envelope) (content : Members) (i : Incoming) (apart : is_for_opaque m i ≡ false) where
  open_for_none : open_in numbers e content ≡ Ok i → opaque_call m type.Open content ≡ None
  unfolding open_in
  open_for_none h =
      let id = bound (text_at field.CommId (codes "comm_id") content) _ i h in
      let target = bound (text_at field.TargetName (codes "target_name") content) _ i id.2 in
      let dict = bound (object_at field.Body (codes "data") content) _ i target.2 in
      let metadata = bound (object_of field.Metadata e.metadata) _ i dict.2 in
      let body = bound (body_with numbers dict.0 e.buffers) _ i metadata.2 in
      let plain : is_opaque_target m target.0 ≡ false = ap (is_for_opaque m) (ok_same body.2) ∙ apart in
      no_open m _ _ id.0 target.0 (there _ _ id.0 id.1) (there _ _ target.0 target.1) plain

  msg_for_none : msg_in numbers e content ≡ Ok i → opaque_call m type.Msg content ≡ None
  unfolding msg_in
  msg_for_none h =
      let id = bound (text_at field.CommId (codes "comm_id") content) _ i h in
      let dict = bound (object_at field.Body (codes "data") content) _ i id.2 in
      let metadata = bound (object_of field.Metadata e.metadata) _ i dict.2 in
      let body = bound (body_with numbers dict.0 e.buffers) _ i metadata.2 in
      let plain : is_opaque_comm m id.0 ≡ false = ap (is_for_opaque m) (ok_same body.2) ∙ apart in
      no_msg m _ id.0 (there _ _ id.0 id.1) plain

  close_for_none : close_in e content ≡ Ok i → opaque_call m type.Close content ≡ None
  unfolding close_in
  close_for_none h =
      let id = bound (text_at field.CommId (codes "comm_id") content) _ i h in
      let dict = bound (object_at field.Body (codes "data") content) _ i id.2 in
      let unused = bound (unused_in e) _ i dict.2 in
      let plain : is_opaque_comm m id.0 ≡ false = ap (is_for_opaque m) (ok_same unused.2) ∙ apart in
      no_close m _ id.0 (there _ _ id.0 id.1) plain

  for_none : (t : MessageType) → incoming_in numbers t e content ≡ Ok i → opaque_call m t content ≡ None
  for_none type.Open h = open_for_none h
  for_none type.Msg h = msg_for_none h
  for_none type.Close h = close_for_none h
  for_none type.InfoRequest h = refl

opaque_none : (m : Machine) (numbers : Numbers) (e : Envelope) (r : ℕ × Incoming) → message_from 4 numbers e ≡ Ok r → is_for_opaque m r.1 ≡ false → opaque_in m e ≡ None
unfolding message_from
opaque_none m numbers e r is apart =
    let head = bound (heading 4 e) _ r is in
    let content = bound (object_of field.Content e.content) _ r head.2 in
    let incoming = bound (incoming_in numbers head.0.1 e content.0) _ r content.2 in
    let same : incoming.0 ≡ r.1 = ap (λ (p : ℕ × Incoming). p.1) (ok_same incoming.2) in
    let none = for_none m numbers e content.0 incoming.0 (ap (is_for_opaque m) same ∙ apart) head.0.1 incoming.1 in
    no_call m _ _ head.0 content.0 head.1 content.1 none

asked_of_message : (m : Machine) (numbers : Numbers) (e : Envelope) (r : ℕ × Incoming) → message_from 4 numbers e ≡ Ok r → is_for_opaque m r.1 ≡ false → asked_of m numbers e ≡ Ok (r.0, asked_by_message r.1)
asked_of_message m numbers e r is apart =
    let none = opaque_none m numbers e r is apart in
    ap (λ o. opaque_or o (asked_from numbers 4 e)) none ∙ asks numbers e r is

-- ---- the message is for an opaque target

module _ (m : Machine) where
  some_open : (i t : Option Name) (id target : Name) → i ≡ Some id → t ≡ Some target → is_opaque_target m target ≡ true → opaque_open m i t ≡ Some (call.Open id target None nothing_in)
  some_open i t id target is to opaque = rw (is, to, opaque) refl

  some_msg : (i : Option Name) (id : Name) → i ≡ Some id → is_opaque_comm m id ≡ true → opaque_msg m i ≡ Some (call.Msg id nothing_in)
  some_msg i id is opaque = rw (is, opaque) refl

  some_close : (i : Option Name) (id : Name) → i ≡ Some id → is_opaque_comm m id ≡ true → opaque_close m i ≡ Some (call.Close id)
  some_close i id is opaque = rw (is, opaque) refl

  some_call : (h : Reading (ℕ × MessageType)) (c : Reading Members) (head : ℕ × MessageType) (content : Members) (asked : Call) → h ≡ Ok head → c ≡ Ok content → opaque_call m head.1 content ≡ Some asked → opaque_by m h c ≡ Some (head.0, Change asked)
  some_call h c head content asked is has one = rw (is, has, one) refl

-- the call that a message is without what doesn't count
pub record HasCall (m : Machine) (t : MessageType) (content : Members) (i : Incoming) : Type 0 where
  pub asked : Call
  pub opaque : opaque_call m t content ≡ Some asked
  pub same : asked_by_message (bare i) ≡ Change asked

module _ (m : Machine) (numbers : Numbers) (e : Envelope) (content : Members) (i : Incoming) (opaque : is_for_opaque m i ≡ true) where
  open_for_one : open_in numbers e content ≡ Ok i → HasCall m type.Open content i
  unfolding open_in
  open_for_one h =
      let id = bound (text_at field.CommId (codes "comm_id") content) _ i h in
      let target = bound (text_at field.TargetName (codes "target_name") content) _ i id.2 in
      let dict = bound (object_at field.Body (codes "data") content) _ i target.2 in
      let metadata = bound (object_of field.Metadata e.metadata) _ i dict.2 in
      let body = bound (body_with numbers dict.0 e.buffers) _ i metadata.2 in
      let is : is_opaque_target m target.0 ≡ true = ap (is_for_opaque m) (ok_same body.2) ∙ opaque in
      record {
        asked = call.Open id.0 target.0 None nothing_in;
        opaque = some_open m _ _ id.0 target.0 (there _ _ id.0 id.1) (there _ _ target.0 target.1) is;
        same = ap (λ x. asked_by_message (bare x)) (sym (ok_same body.2));
      }

  msg_for_one : msg_in numbers e content ≡ Ok i → HasCall m type.Msg content i
  unfolding msg_in
  msg_for_one h =
      let id = bound (text_at field.CommId (codes "comm_id") content) _ i h in
      let dict = bound (object_at field.Body (codes "data") content) _ i id.2 in
      let metadata = bound (object_of field.Metadata e.metadata) _ i dict.2 in
      let body = bound (body_with numbers dict.0 e.buffers) _ i metadata.2 in
      let is : is_opaque_comm m id.0 ≡ true = ap (is_for_opaque m) (ok_same body.2) ∙ opaque in
      record {
        asked = call.Msg id.0 nothing_in;
        opaque = some_msg m _ id.0 (there _ _ id.0 id.1) is;
        same = ap (λ x. asked_by_message (bare x)) (sym (ok_same body.2));
      }

  close_for_one : close_in e content ≡ Ok i → HasCall m type.Close content i
  unfolding close_in
  close_for_one h =
      let id = bound (text_at field.CommId (codes "comm_id") content) _ i h in
      let dict = bound (object_at field.Body (codes "data") content) _ i id.2 in
      let unused = bound (unused_in e) _ i dict.2 in
      let is : is_opaque_comm m id.0 ≡ true = ap (is_for_opaque m) (ok_same unused.2) ∙ opaque in
      record {
        asked = call.Close id.0;
        opaque = some_close m _ id.0 (there _ _ id.0 id.1) is;
        same = ap (λ x. asked_by_message (bare x)) (sym (ok_same unused.2));
      }

  infos_for_none : info_request_in e content ≡ Ok i → HasCall m type.InfoRequest content i
  unfolding info_request_in
  infos_for_none h =
      let target = bound (filter_at (codes "target_name") content) _ i h in
      let unused = bound (unused_in e) _ i target.2 in
      let never : false ≡ true = ap (is_for_opaque m) (ok_same unused.2) ∙ opaque in
      cc

  for_one : (t : MessageType) → incoming_in numbers t e content ≡ Ok i → HasCall m t content i
  for_one type.Open h = open_for_one h
  for_one type.Msg h = msg_for_one h
  for_one type.Close h = close_for_one h
  for_one type.InfoRequest h = infos_for_none h

asked_of_bare : (m : Machine) (numbers : Numbers) (e : Envelope) (r : ℕ × Incoming) → message_from 4 numbers e ≡ Ok r → is_for_opaque m r.1 ≡ true → asked_of m numbers e ≡ Ok (r.0, asked_by_message (bare r.1))
unfolding message_from
asked_of_bare m numbers e r is opaque =
    let head = bound (heading 4 e) _ r is in
    let content = bound (object_of field.Content e.content) _ r head.2 in
    let incoming = bound (incoming_in numbers head.0.1 e content.0) _ r content.2 in
    let same : incoming.0 ≡ r.1 = ap (λ (p : ℕ × Incoming). p.1) (ok_same incoming.2) in
    let one = for_one m numbers e content.0 incoming.0 (ap (is_for_opaque m) same ∙ opaque) head.0.1 incoming.1 in
    ap (λ o. opaque_or o (asked_from numbers 4 e)) (some_call m _ _ head.0 content.0 one.asked head.1 content.1 one.opaque)
    ∙ ap (λ q. Ok (head.0.0, q)) (sym one.same) ∙ ap (λ (p : ℕ × Incoming). Ok (p.0, asked_by_message (bare p.1))) (ok_same incoming.2)

-- ---- in either case

either : (m : Machine) (numbers : Numbers) (e : Envelope) (r : ℕ × Incoming) (b : Bool) → is_for_opaque m r.1 ≡ b → message_from 4 numbers e ≡ Ok r → asked_of m numbers e ≡ Ok (r.0, asked_for m r.1)
either m numbers e r true opaque is = asked_of_bare m numbers e r is opaque ∙ rw opaque refl
either m numbers e r false apart is = asked_of_message m numbers e r is apart ∙ rw apart refl

pub asked_by_parts : (m : Machine) (numbers : Numbers) (client : ℕ) (header metadata content : List ℕ) (buffers : List (List ℕ)) (r : ℕ × Incoming) → message_by_parts 4 numbers client header metadata content buffers ≡ Ok r
    → AskedByParts m numbers client header metadata content buffers (r.0, asked_for m r.1)
asked_by_parts m numbers client header metadata content buffers r is =
    let e = bound (envelope_in client header metadata content buffers) _ r is in
    (e.0, e.1, either m numbers e.0 r _ refl e.2)
