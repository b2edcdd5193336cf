-- Texts that are written one after the other.
use Rattle.std.proofs.Common.{◌≡◌, ◌+◌, ◌<◌, ℕ, suc, Bool, true, false, nat_lt, List, [], ◌∷◌, ◌++◌, length, get_or, drop, refl, sym, ap, ◌∙◌, arith, append_assoc, codes, decimal}
use Rattle.std.proofs.lemmas.Bool.{lt-ltb}
use Rattle.std.proofs.Math.Seq.{drop-cons}
use Rattle.std.proofs.lemmas.Fmt.{decimal_digit}
use Rattle.base64.specs.GeneralPurpose.{encode_of}
use Rattle.base64.specs.Engines.{standard}
use Rattle.json.specs.Print.{quoted}
use Rattle.serde_json.specs.Written.{comma_if}
use Rattle.comm_json.specs.Text.{items_text, members_text, compact_text}
use Rattle.json.specs.Json.{object}
use Rattle.comm_value.specs.ToJson.{json_members}
use Rattle.comm_messages.specs.Content.{Content}
use Rattle.serde_json.proofs.OnLiterals.{serde_json_on_literals}
use Rattle.comm_messages.specs.Text.{buffer_texts, comm_members, text}
use Rattle.comm_messages.specs.Parts.{GrowsBy, buffers_text, parent_text, front_text, content_text, metadata_text, end_text, info_text}
use Rattle.comm_messages.specs.declared.outgoing.Outgoing.{Outgoing}
use Rattle.comm_messages.specs.declared.outgoing.Outgoing.TheVariants.{Open, Msg, Close, InfoReply}
use Rattle.comm_messages.specs.declared.infos.Info.{Info}
use Rattle.comm_messages.specs.declared.outgoing.Parent.{Parent}
use Rattle.comm_messages.specs.declared.outgoing.Parent.TheVariants.{Call, Read}

-- what is still to be written of the buffers from i on
abbrev pub rest : List (List ℕ) → ℕ → List ℕ
rest bs i = items_text (nat_lt 0 i) (buffer_texts (drop i bs))

rest-step : (bs : List (List ℕ)) (i : ℕ) (b : List ℕ) → i < length bs → b ≡ get_or bs i b
    → rest bs i ≡ (comma_if (nat_lt 0 i) ++ quoted (encode_of standard b)) ++ items_text true (buffer_texts (drop (suc i) bs))
rest-step bs i b h is =
    ap (λ l. items_text (nat_lt 0 i) (buffer_texts l)) (drop-cons bs i b h ∙ ap (λ c. c ∷ drop (suc i) bs) (sym is))
    ∙ sym (append_assoc (comma_if (nat_lt 0 i)) (quoted (encode_of standard b)) (items_text true (buffer_texts (drop (suc i) bs))))

later : (i : ℕ) → nat_lt 0 (suc i) ≡ true
later i = lt-ltb 0 (suc i) (omega arith)

pub one_more : (bs : List (List ℕ)) (i : ℕ) (b old new whole : List ℕ) → i < length bs → b ≡ get_or bs i b
    → GrowsBy old (comma_if (nat_lt 0 i) ++ quoted (encode_of standard b)) new → old ++ rest bs i ≡ whole → new ++ rest bs (i + 1) ≡ whole
one_more bs i b old new whole h is more before =
    let next : i + 1 ≡ suc i = omega arith in
    let written = comma_if (nat_lt 0 i) ++ quoted (encode_of standard b) in
    ap (λ l. l ++ rest bs (i + 1)) more.is ∙ ap (λ n. (old ++ written) ++ rest bs n) next
    ∙ append_assoc old written (rest bs (suc i))
    ∙ ap (λ k. old ++ (written ++ items_text k (buffer_texts (drop (suc i) bs)))) (later i)
    ∙ ap (λ l. old ++ l) (sym (rest-step bs i b h is)) ∙ before

-- a part is written, and then the rest
pub written : {first second last part more : List ℕ} → GrowsBy first part second → GrowsBy second more last → GrowsBy first (part ++ more) last
written {first} {second} {last} {part} {more} h k = record { is = k.is ∙ ap (λ l. l ++ more) h.is ∙ append_assoc first part more }

pub text_in_parts : (message : Outgoing) (parent : Parent) →
    text message parent ≡ codes "{\"buffers\":[" ++ (buffers_text message ++ (parent_text parent ++ (codes ",\"content\":" ++ (content_text message ++ (front_text parent ++ end_text message)))))
unfolding text serde_json_on_literals
text_in_parts message (Call client number) = simp append_assoc
text_in_parts message (Read client front) = simp append_assoc

pub bare_msg : (id : List ℕ) (body : Content) (client number : ℕ) → body.buffers ≡ [] → text (Msg id body) (Call client number)
    ≡ codes "{\"buffers\":[],\"call\":" ++ (decimal number ++ ((codes ",\"client\":" ++ decimal client) ++ (codes ",\"content\":{\"comm_id\":" ++ (quoted id
    ++ ((codes ",\"data\":" ++ compact_text (object (json_members body.content))) ++ codes "},\"header\":{\"msg_type\":\"comm_msg\"},\"metadata\":{}}")))))
unfolding text serde_json_on_literals
bare_msg id body client number none = rw none (simp append_assoc)

pub digit_written : (old new : List ℕ) (n : ℕ) → n < 10 → new ≡ old ++ (48 + n) ∷ [] → GrowsBy old (decimal n) new
digit_written old new n small is = record { is = is ∙ ap (λ l. old ++ l) (sym (decimal_digit n small)) }

pub same_part : {old part other new : List ℕ} → part ≡ other → GrowsBy old other new → GrowsBy old part new
same_part {old} {part} {other} {new} e h = record { is = h.is ∙ ap (λ l. old ++ l) (sym e) }

pub open_content : (m : Outgoing) (id target version : List ℕ) (body : Content) → m ≡ Open id target version body
    → content_text m ≡ (codes "{\"comm_id\":" ++ quoted id) ++ ((codes ",\"data\":" ++ compact_text (object (json_members body.content)))
    ++ (codes ",\"target_name\":" ++ (quoted target ++ codes "}")))
unfolding serde_json_on_literals
open_content m id target version body is = rw is (simp append_assoc)

pub open_metadata : (m : Outgoing) (id target version : List ℕ) (body : Content) → m ≡ Open id target version body
    → metadata_text m ≡ codes "{\"version\":" ++ (quoted version ++ codes "}")
unfolding serde_json_on_literals
open_metadata m id target version body is = rw is (simp append_assoc)

pub msg_content : (m : Outgoing) (id : List ℕ) (body : Content) → m ≡ Msg id body
    → content_text m ≡ (codes "{\"comm_id\":" ++ quoted id) ++ ((codes ",\"data\":" ++ compact_text (object (json_members body.content))) ++ codes "}")
unfolding serde_json_on_literals
msg_content m id body is = rw is (simp append_assoc)

pub close_content : (m : Outgoing) (id : List ℕ) → m ≡ Close id → content_text m ≡ (codes "{\"comm_id\":" ++ quoted id) ++ codes ",\"data\":{}}"
unfolding serde_json_on_literals
close_content m id is = rw is (simp append_assoc)

pub open_end : (m : Outgoing) (id target version : List ℕ) (body : Content) → m ≡ Open id target version body
    → end_text m ≡ codes ",\"header\":{\"msg_type\":\"comm_open\"},\"metadata\":{\"version\":" ++ (quoted version ++ codes "}}")
unfolding serde_json_on_literals
open_end m id target version body is = rw is (simp append_assoc)

pub msg_end : (m : Outgoing) (id : List ℕ) (body : Content) → m ≡ Msg id body → end_text m ≡ codes ",\"header\":{\"msg_type\":\"comm_msg\"},\"metadata\":{}}"
unfolding serde_json_on_literals
msg_end m id body is = rw is refl

pub close_end : (m : Outgoing) (id : List ℕ) → m ≡ Close id → end_text m ≡ codes ",\"header\":{\"msg_type\":\"comm_close\"},\"metadata\":{}}"
unfolding serde_json_on_literals
close_end m id is = rw is refl

pub reply_content : (m : Outgoing) (comms : List Info) → m ≡ InfoReply comms
    → content_text m ≡ codes "{\"comms\":{" ++ (members_text false (comm_members comms) ++ codes ",\"status\":\"ok\"}")
unfolding serde_json_on_literals
reply_content m comms is = rw is refl

pub reply_end : (m : Outgoing) (comms : List Info) → m ≡ InfoReply comms → end_text m ≡ codes ",\"header\":{\"msg_type\":\"comm_info_reply\"},\"metadata\":{}}"
unfolding serde_json_on_literals
reply_end m comms is = rw is refl

-- what is still to be written of the comms from i on
abbrev pub comms_rest : List Info → ℕ → List ℕ
comms_rest infos i = members_text (nat_lt 0 i) (comm_members (drop i infos))

comm-member : (k : Bool) (info : Info) (infos : List Info)
    → members_text k (comm_members (info ∷ infos)) ≡ (comma_if k ++ info_text info) ++ members_text true (comm_members infos)
unfolding serde_json_on_literals
comm-member k info infos = simp append_assoc

pub one_more_comm : (infos : List Info) (i : ℕ) (info : Info) (old new whole : List ℕ) → i < length infos → info ≡ get_or infos i info
    → GrowsBy old (comma_if (nat_lt 0 i) ++ info_text info) new → old ++ comms_rest infos i ≡ whole → new ++ comms_rest infos (i + 1) ≡ whole
one_more_comm infos i info old new whole h is more before =
    let next : i + 1 ≡ suc i = omega arith in
    let written = comma_if (nat_lt 0 i) ++ info_text info in
    let first : comms_rest infos i ≡ written ++ members_text true (comm_members (drop (suc i) infos)) =
    ap (λ l. members_text (nat_lt 0 i) (comm_members l)) (drop-cons infos i info h ∙ ap (λ c. c ∷ drop (suc i) infos) (sym is))
    ∙ comm-member (nat_lt 0 i) info (drop (suc i) infos) in
    ap (λ l. l ++ comms_rest infos (i + 1)) more.is ∙ ap (λ n. (old ++ written) ++ comms_rest infos n) next
    ∙ append_assoc old written (comms_rest infos (suc i))
    ∙ ap (λ k. old ++ (written ++ members_text k (comm_members (drop (suc i) infos)))) (later i)
    ∙ ap (λ l. old ++ l) (sym first) ∙ before
