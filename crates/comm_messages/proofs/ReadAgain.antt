-- A message that was written is read again as the same message.
use Rattle.std.proofs.Common.{◌≡◌, ℕ, suc, ◌<◌, ◌^◌, pos, negsuc, true, false, nat_lt, cond, Option, None, List, [], ◌∷◌, map, Some, Ok, is_some, option_map, option_and_then, codes, IsUtf8, refl, ap, ◌∙◌, arith}
use Rattle.std.specs.Prelude.{All, ◌&&◌, decimal as decimal_text}
use Rattle.std.specs.Result.{result_ok}
use Rattle.std.proofs.lemmas.Bool.{lt-ltb, or_parts, ltb-true}
use Rattle.std.specs.List.{AllByRecursion}
use Rattle.std.specs.List.Sorted.{IsStrictlySortedBy}
use Rattle.std.specs.declared.cmp.Ordering.TheVariants.{Less}
use Rattle.std.proofs.lemmas.Str.{IsUtf8-from_ascii, is_utf8-from_IsUtf8}
use Rattle.json.proofs.Printed.Utf8.{are_ascii, IsUtf8-are_ascii}
use Rattle.base64.specs.GeneralPurpose.{IsBytes, encode_of, decode_of}
use Rattle.base64.specs.Engines.{standard}
use Rattle.base64.proofs.EngineFacts.{decode_of-encode_of, IsAscii-encode_of}
use Rattle.json.specs.Json as json
use Rattle.json.specs.Find.{as_object}
use Rattle.comm_value.specs.Tree.{Tree, null, boolean, whole, decimal, text, bytes, list, dict, Items, no_items, item, Members, no_members, member}
use Rattle.comm_value.specs.FromJson.{tree_of, items_of, members_of, number_of}
use Rattle.comm_value.specs.declared.from_json.Numbers.{Numbers}
use Rattle.comm_value.specs.declared.from_json.Numbers.TheVariants.{Whole, Any}
use Rattle.comm_json.specs.Behind.{whole_of}
use Rattle.comm_json.proofs.Wholes.{whole_again, decimal_not_whole}
use Rattle.serde_json.specs.Data.{unsigned, negative}
use Rattle.comm_value.specs.ToJson as to
use Rattle.comm_value.specs.Order.{key_cmp, is_first, is_ordered, items_ordered, members_ordered}
use Rattle.comm_value.specs.Places.{has_bytes, items_have_bytes, members_have_bytes}
use Rattle.comm_value.proofs.Keys.{both, is_less}
use Rattle.comm_messages.specs.Content.{Content}
use Rattle.comm_value.specs.Gives.{or_fault, ◌>>=◌}
use Rattle.comm_messages.specs.Gives.{Reading}
use Rattle.comm_messages.specs.Buffers.{buffers_from}
use Rattle.comm_messages.specs.Fields.{fields_of}
use Rattle.comm_messages.specs.Listed.{IdsAreInOrder}
use Rattle.comm_messages.specs.declared.infos.Info.{Info}
use Rattle.comm_messages.specs.Message.{message_of, message_from, message_in, heading, open_in, msg_in, close_in}
use Rattle.comm_messages.specs.Text.{text as written, Parts, client_in, buffer_texts, comm_members, json_of, parts_of}
use Rattle.comm_messages.specs.ReadAgain.{number_in, IsTaken, IsKept, ItemsKept, MembersKept, InfosKept, MessageKept, ObjectSaysMessage, TextIsItsObject, TextIsReadAgain}
use Rattle.comm_messages.specs.declared.fault.MessageFault.TheVariants.{BadBuffer}
use Rattle.comm_messages.specs.declared.incoming.Incoming.{Incoming}
use Rattle.comm_messages.specs.declared.incoming.Incoming.TheVariants as incoming
use Rattle.comm_messages.specs.declared.outgoing.Outgoing.{Outgoing}
use Rattle.comm_messages.specs.declared.outgoing.Outgoing.TheVariants.{Open, Msg, Close, InfoReply}
use Rattle.comm_messages.specs.declared.outgoing.Parent.{Parent}
use Rattle.comm_messages.specs.declared.outgoing.Parent.TheVariants.{Call, Read}
use Rattle.comm_messages.proofs.JsonTexts.{NumberClean, decimal_clean, whole_clean, other_clean, IsFirst, IsClean, AreClean, MembersClean, read_again, utf8}
use Rattle.comm_messages.proofs.ObjectLemmas.{object_read}

-- ---- a value without bytes is what its JSON is read as

other_again : (numbers : Numbers) (s : List ℕ) → IsTaken numbers s → number_of numbers s (whole_of s) ≡ Some (decimal s)
other_again Whole s h = absurd h
other_again Any s h = ap (number_of Any s) (decimal_not_whole s h.0) ∙ ap (λ b. cond b (Some (decimal s)) None) h.0

mutual
  tree_again : (numbers : Numbers) (t : Tree) → IsKept numbers t → has_bytes t ≡ false → tree_of numbers (to.json_of t) ≡ Some t
  tree_again numbers null k h = refl
  tree_again numbers (boolean b) k h = refl
  tree_again numbers (whole (pos n)) k h = ap (number_of numbers _) (whole_again (unsigned n) (pos n) refl (ltb-true _ _ k))
  tree_again numbers (whole (negsuc n)) k h = ap (number_of numbers _) (whole_again (negative (negsuc n)) (negsuc n) refl (ltb-true _ _ k))
  tree_again numbers (decimal s) k h = other_again numbers s k
  tree_again numbers (text s) k h = refl
  tree_again numbers (bytes b) k h = cc
  tree_again numbers (list ts) k h = ap (option_map list) (items_again numbers ts k h)
  tree_again numbers (dict ms) k h = ap (option_map dict) (members_again numbers ms k h)

  items_again : (numbers : Numbers) (ts : Items) → ItemsKept numbers ts → items_have_bytes ts ≡ false → items_of numbers (to.json_items ts) ≡ Some ts
  items_again numbers no_items k h = refl
  items_again numbers (item t ts) k h =
      let p = or_parts (has_bytes t) (items_have_bytes ts) h in
      ap (option_and_then (λ u. option_map (item u) (items_of numbers (to.json_items ts)))) (tree_again numbers t k.0 p.0) ∙ ap (option_map (item t)) (items_again numbers ts k.1 p.1)

  members_again : (numbers : Numbers) (ms : Members) → MembersKept numbers ms → members_have_bytes ms ≡ false → members_of numbers (to.json_members ms) ≡ Some ms
  members_again numbers no_members k h = refl
  members_again numbers (member l t ms) k h =
      let p = or_parts (has_bytes t) (members_have_bytes ms) h in
      ap (option_and_then (λ u. option_map (member l u) (members_of numbers (to.json_members ms)))) (tree_again numbers t k.1 p.0) ∙ ap (option_map (member l t)) (members_again numbers ms k.2 p.1)

-- ---- and its JSON is clean

first_key : (k : List ℕ) (ms : Members) → is_first k ms ≡ true → IsFirst k (to.json_members ms)
first_key k no_members h = tt
first_key k (member l t ms) h = is_less (key_cmp k l) h

taken_clean : (numbers : Numbers) (s : List ℕ) → IsTaken numbers s → NumberClean s
taken_clean Whole s h = absurd h
taken_clean Any s h = other_clean s h.0 h.1

mutual
  tree_clean : (numbers : Numbers) (t : Tree) → IsKept numbers t → is_ordered t ≡ true → IsClean (to.json_of t)
  tree_clean numbers null h o = tt
  tree_clean numbers (boolean b) h o = tt
  tree_clean numbers (whole z) h o = whole_clean z h
  tree_clean numbers (decimal s) h o = taken_clean numbers s h
  tree_clean numbers (text s) h o = h
  tree_clean numbers (bytes b) h o = tt
  tree_clean numbers (list ts) h o = items_clean numbers ts h o
  tree_clean numbers (dict ms) h o = members_clean numbers ms h o

  items_clean : (numbers : Numbers) (ts : Items) → ItemsKept numbers ts → items_ordered ts ≡ true → AreClean (to.json_items ts)
  items_clean numbers no_items h o = tt
  items_clean numbers (item t ts) h o = let p = both (is_ordered t) (items_ordered ts) o in (tree_clean numbers t h.0 p.0, items_clean numbers ts h.1 p.1)

  members_clean : (numbers : Numbers) (ms : Members) → MembersKept numbers ms → members_ordered ms ≡ true → MembersClean (to.json_members ms)
  members_clean numbers no_members h o = tt
  members_clean numbers (member k t ms) h o =
      let p = both (is_first k ms) (is_ordered t && members_ordered ms) o in
      let q = both (is_ordered t) (members_ordered ms) p.1 in
      (h.0, first_key k ms p.0, tree_clean numbers t h.1 q.0, members_clean numbers ms h.2 q.1)

-- ---- buffers

bytes_again : (b : List ℕ) → IsBytes b → result_ok (decode_of standard (encode_of standard b)) ≡ Some b
bytes_again b h = ap result_ok (decode_of-encode_of standard b refl h)

buffers_again : (n : ℕ) (bs : List (List ℕ)) → All IsBytes bs → buffers_from n (buffer_texts bs) ≡ Ok bs
buffers_again n [] h = refl
buffers_again n (b ∷ bs) h =
    ap (λ r. or_fault (BadBuffer n) r >>= (λ c. buffers_from (suc n) (buffer_texts bs) >>= (λ cs. Ok (c ∷ cs)))) (bytes_again b (h 0 b (omega arith)))
    ∙ ap (λ r. r >>= (λ cs. Ok (b ∷ cs))) (buffers_again (suc n) bs (λ k d lt. h (suc k) d (omega arith)))

texts_clean : (bs : List (List ℕ)) → AreClean (buffer_texts bs)
texts_clean [] = tt
texts_clean (b ∷ bs) = (IsUtf8-from_ascii (encode_of standard b) (IsAscii-encode_of standard b), texts_clean bs)

-- ---- the object

some_same : {A : Type 0} {x y : A} → Some x ≡ Some y → x ≡ y
some_same h = cc

client_known : (client : ℕ) → client < 2 ^ 64 → whole_of (decimal_text client) ≡ Some (pos client)
client_known client small = whole_again (unsigned client) (pos client) refl small

open_object : (clients : ℕ) (numbers : Numbers) (parent : Parent) (id target version : List ℕ) (body : Content) → whole_of (decimal_text (client_in parent)) ≡ Some (pos (client_in parent)) → nat_lt (client_in parent) clients ≡ true
    → members_of numbers (to.json_members body.content) ≡ Some body.content → buffers_from 0 (buffer_texts body.buffers) ≡ Ok body.buffers
    → message_of clients numbers (json_of (parts_of (Open id target version body)) parent) ≡ Ok (client_in parent, incoming.Open id target (Some version) body)
unfolding message_from heading open_in
open_object clients numbers (Call c n) id target version body known client values buffers = rw (known, client, values, buffers) refl
open_object clients numbers (Read c n) id target version body known client values buffers = rw (known, client, values, buffers) refl

msg_object : (clients : ℕ) (numbers : Numbers) (parent : Parent) (id : List ℕ) (body : Content) → whole_of (decimal_text (client_in parent)) ≡ Some (pos (client_in parent)) → nat_lt (client_in parent) clients ≡ true
    → members_of numbers (to.json_members body.content) ≡ Some body.content → buffers_from 0 (buffer_texts body.buffers) ≡ Ok body.buffers
    → message_of clients numbers (json_of (parts_of (Msg id body)) parent) ≡ Ok (client_in parent, incoming.Msg id body)
unfolding message_from heading msg_in
msg_object clients numbers (Call c n) id body known client values buffers = rw (known, client, values, buffers) refl
msg_object clients numbers (Read c n) id body known client values buffers = rw (known, client, values, buffers) refl

close_object : (clients : ℕ) (numbers : Numbers) (parent : Parent) (id : List ℕ) → whole_of (decimal_text (client_in parent)) ≡ Some (pos (client_in parent)) → nat_lt (client_in parent) clients ≡ true
    → message_of clients numbers (json_of (parts_of (Close id)) parent) ≡ Ok (client_in parent, incoming.Close id)
unfolding message_from heading close_in
close_object clients numbers (Call c n) id known client = rw (known, client) refl
close_object clients numbers (Read c n) id known client = rw (known, client) refl

same_result : (c : ℕ) (i j : Incoming) (r : Reading (ℕ × Incoming)) → Some i ≡ Some j → r ≡ Ok (c, i) → r ≡ Ok (c, j)
same_result c i j r h k = k ∙ ap (λ x. Ok (c, x)) (some_same h)

pub object_says_message : ObjectSaysMessage
object_says_message clients numbers (Open id target version body) parent i is kept small client =
    let k = kept.3 in
    same_result _ _ _ _ is (open_object clients numbers parent id target version body (client_known _ small) (lt-ltb _ _ client) (members_again numbers body.content k.values k.plain) (buffers_again 0 body.buffers k.bytes))
object_says_message clients numbers (Msg id body) parent i is kept small client =
    let k = kept.1 in
    same_result _ _ _ _ is (msg_object clients numbers parent id body (client_known _ small) (lt-ltb _ _ client) (members_again numbers body.content k.values k.plain) (buffers_again 0 body.buffers k.bytes))
object_says_message clients numbers (Close id) parent i is kept small client = same_result _ _ _ _ is (close_object clients numbers parent id (client_known _ small) (lt-ltb _ _ client))
object_says_message clients numbers (InfoReply comms) parent i is kept small client = cc

-- ---- its text

key : (s : List ℕ) → are_ascii s ≡ true → IsUtf8 s
key s h = IsUtf8-are_ascii s h

parts_clean : (parts : Parts) (parent : Parent) → IsUtf8 parts.type → MembersClean parts.content → MembersClean parts.metadata → client_in parent < 2 ^ 64 → number_in parent < 2 ^ 64
    → IsClean (json_of parts parent)
parts_clean parts (Call c n) type content metadata client number =
    let header : MembersClean (json.member (codes "msg_type") (json.string parts.type) json.no_members) = (key (codes "msg_type") refl, tt, type, tt) in (
      key (codes "buffers") refl,
      refl,
      texts_clean parts.buffers,
      (
        key (codes "call") refl,
        refl,
        decimal_clean _ number,
        (
          key (codes "client") refl,
          refl,
          decimal_clean _ client,
          (
            key (codes "content") refl,
            refl,
            content,
            (key (codes "header") refl, refl, header, (key (codes "metadata") refl, tt, metadata, tt)),
          ),
        ),
      ),
    )
parts_clean parts (Read c n) type content metadata client number =
    let header : MembersClean (json.member (codes "msg_type") (json.string parts.type) json.no_members) = (key (codes "msg_type") refl, tt, type, tt) in (
      key (codes "buffers") refl,
      refl,
      texts_clean parts.buffers,
      (
        key (codes "client") refl,
        refl,
        decimal_clean _ client,
        (
          key (codes "content") refl,
          refl,
          content,
          (
            key (codes "front") refl,
            refl,
            decimal_clean _ number,
            (key (codes "header") refl, refl, header, (key (codes "metadata") refl, tt, metadata, tt)),
          ),
        ),
      ),
    )

first_comm : (id : List ℕ) (comms : List Info) → AllByRecursion (λ k. key_cmp id k ≡ Less) (map (λ info. info.id) comms) → IsFirst id (comm_members comms)
first_comm id [] h = tt
first_comm id (info ∷ comms) h = h.0

comms_clean : (comms : List Info) → InfosKept comms → IdsAreInOrder comms → MembersClean (comm_members comms)
unfolding IsStrictlySortedBy
comms_clean [] kept order = tt
comms_clean (info ∷ comms) kept order = (kept.0, first_comm info.id comms order.0, (key (codes "target_name") refl, tt, kept.1, tt), comms_clean comms kept.2 order.1)

message_clean : (numbers : Numbers) (m : Outgoing) (parent : Parent) → MessageKept numbers m → client_in parent < 2 ^ 64 → number_in parent < 2 ^ 64 → IsClean (json_of (parts_of m) parent)
message_clean numbers (Open id target version body) parent kept client number =
    let k = kept.3 in
    let dict = members_clean numbers body.content k.values k.ordered in
    parts_clean (parts_of (Open id target version body)) parent (key (codes "comm_open") refl)
    (key (codes "comm_id") refl, refl, kept.0, (key (codes "data") refl, refl, dict, (key (codes "target_name") refl, tt, kept.1, tt))) (key (codes "version") refl, tt, kept.2, tt) client number
message_clean numbers (Msg id body) parent kept client number =
    let k = kept.1 in
    let dict = members_clean numbers body.content k.values k.ordered in
    parts_clean (parts_of (Msg id body)) parent (key (codes "comm_msg") refl) (key (codes "comm_id") refl, refl, kept.0, (key (codes "data") refl, tt, dict, tt)) tt client number
message_clean numbers (Close id) parent kept client number =
    parts_clean (parts_of (Close id)) parent (key (codes "comm_close") refl) (key (codes "comm_id") refl, refl, kept, (key (codes "data") refl, tt, tt, tt)) tt client number
message_clean numbers (InfoReply comms) parent kept client number =
    parts_clean (parts_of (InfoReply comms)) parent (key (codes "comm_info_reply") refl)
    (key (codes "comms") refl, refl, comms_clean comms kept.0 kept.1, (key (codes "status") refl, tt, key (codes "ok") refl, tt)) tt client number

pub text_is_its_object : TextIsItsObject
unfolding written
text_is_its_object numbers m parent kept client number shallow =
    let d = json_of (parts_of m) parent in
    let clean = message_clean numbers m parent kept (omega arith) number in
    rw (is_utf8-from_IsUtf8 (written m parent) (utf8 d clean), read_again d clean shallow) refl

an_object : (parts : Parts) (parent : Parent) → is_some (as_object (json_of parts parent)) ≡ true
an_object parts (Call c n) = refl
an_object parts (Read c n) = refl

same_members : (clients : ℕ) (numbers : Numbers) (parts : Parts) (parent : Parent) → message_in clients numbers (fields_of (json_of parts parent)) ≡ message_of clients numbers (json_of parts parent)
same_members clients numbers parts (Call c n) = refl
same_members clients numbers parts (Read c n) = refl

pub text_is_read_again : TextIsReadAgain
unfolding written
text_is_read_again clients numbers m parent i is kept few client number shallow =
    let parts = parts_of m in
    let d = json_of parts parent in
    let clean = message_clean numbers m parent kept (omega arith) number in
    ap (λ r. r >>= message_in clients numbers) (object_read (written m parent) d (utf8 d clean) (read_again d clean shallow) (an_object parts parent))
    ∙ same_members clients numbers parts parent ∙ object_says_message clients numbers m parent i is kept (omega arith) client
