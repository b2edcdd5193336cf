-- What is found in the members so far, and after one more.
use Rattle.std.proofs.Common.{ℕ, List, Option, Some, None, Ok, ◌≡◌, true, false, refl, sym, ap, subst, ◌∙◌, bytes_eq, codes, Bor, option_map}
use Rattle.std.specs.Prelude.{IfSome}
use Rattle.json.specs.Json.{Json, Members, no_members, object, string}
use Rattle.comm_json.specs.Behind.{get_member, put}
use Rattle.comm_value.specs.Tree as tree
use Rattle.comm_value.specs.declared.from_json.Numbers.{Numbers}
use Rattle.comm_messages.specs.Buffers.{buffers_of}
use Rattle.comm_messages.specs.Fields.{client_of}
use Rattle.comm_messages.specs.Message.{type_of}
use Rattle.comm_messages.specs.declared.read.MessageType.{MessageType}
use Rattle.comm_reader.specs.Reader.{HasObject, HasContent, HasLine, HasNothing, HasTaken, IsData, IsRareKey, IsType, IsVersion, version_told}
use Rattle.comm_reader.specs.declared.content.Content.{Content}
use Rattle.comm_reader.specs.declared.heading.Metadata.{Metadata}
use Rattle.comm_reader.specs.declared.line.Line.{Line}
use Rattle.comm_reader.specs.declared.line.RareKey.{RareKey}
use Rattle.comm_reader.specs.declared.line.RareKey.TheVariants as rare_key
use Rattle.comm_reader.proofs.Walking.{apart, put_there, put_elsewhere}

pub object_there : (n k : List ℕ) (ms dict : Members) (Are : Members → Type 0) → bytes_eq k n ≡ true → Are dict → HasObject (get_member n (put k (object dict) ms)) Are
object_there n k ms dict Are is are = subst (λ o. HasObject o Are) (sym (put_there n k (object dict) ms is)) (dict, refl, are)

pub object_kept : (n k : List ℕ) (j : Json) (ms : Members) (Are : Members → Type 0) → bytes_eq k n ≡ false → HasObject (get_member n ms) Are → HasObject (get_member n (put k j ms)) Are
object_kept n k j ms Are differs has = subst (λ o. HasObject o Are) (sym (put_elsewhere n k j ms differs)) has

module _ (numbers : Numbers) (ms : Members) (c : Content) (k : List ℕ) (h : HasContent numbers c ms) where
  pub set_data : (d : tree.Members) (dict : Members) → bytes_eq k (codes "data") ≡ true → IsData numbers d dict → HasContent numbers (record { dict = d; comm_id = c.comm_id; target_name = c.target_name }) (put k (object dict) ms)
  set_data d dict is read =
      record {
        dict = object_there (codes "data") k ms dict (IsData numbers d) is read;
        comm_id = put_elsewhere (codes "comm_id") k (object dict) ms (apart k (codes "data") (codes "comm_id") is refl) ∙ h.comm_id;
        target_name = put_elsewhere (codes "target_name") k (object dict) ms (apart k (codes "data") (codes "target_name") is refl) ∙ h.target_name;
      }

  pub set_comm_id : (s : Bor (List ℕ)) → bytes_eq k (codes "comm_id") ≡ true → HasContent numbers (record { dict = c.dict; comm_id = Some s; target_name = c.target_name }) (put k (string s.now) ms)
  set_comm_id s is =
      record {
        dict = object_kept (codes "data") k (string s.now) ms _ (apart k (codes "comm_id") (codes "data") is refl) h.dict;
        comm_id = put_there (codes "comm_id") k (string s.now) ms is;
        target_name = put_elsewhere (codes "target_name") k (string s.now) ms (apart k (codes "comm_id") (codes "target_name") is refl) ∙ h.target_name;
      }

  pub set_target_name : (s : Bor (List ℕ)) → bytes_eq k (codes "target_name") ≡ true → HasContent numbers (record { dict = c.dict; comm_id = c.comm_id; target_name = Some s }) (put k (string s.now) ms)
  set_target_name s is =
      record {
        dict = object_kept (codes "data") k (string s.now) ms _ (apart k (codes "target_name") (codes "data") is refl) h.dict;
        comm_id = put_elsewhere (codes "comm_id") k (string s.now) ms (apart k (codes "target_name") (codes "comm_id") is refl) ∙ h.comm_id;
        target_name = put_there (codes "target_name") k (string s.now) ms is;
      }

  pub content_kept : (j : Json) → bytes_eq k (codes "data") ≡ false → bytes_eq k (codes "comm_id") ≡ false → bytes_eq k (codes "target_name") ≡ false → HasContent numbers c (put k j ms)
  content_kept j a b d =
      record {
        dict = object_kept (codes "data") k j ms _ a h.dict;
        comm_id = put_elsewhere (codes "comm_id") k j ms b ∙ h.comm_id;
        target_name = put_elsewhere (codes "target_name") k j ms d ∙ h.target_name;
      }

module _ (absent : List ℕ) (clients : ℕ) (numbers : Numbers) (ms : Members) (l : Line) (k : List ℕ) (h : HasLine absent clients numbers l ms) (other : bytes_eq k absent ≡ false) where
  absent_still : (j : Json) → get_member absent (put k j ms) ≡ None
  absent_still j = put_elsewhere absent k j ms other ∙ h.no_other

  client_still : (j : Json) → bytes_eq k (codes "client") ≡ false → client_of clients (get_member (codes "client") (put k j ms)) ≡ Ok l.client
  client_still j d = ap (client_of clients) (put_elsewhere (codes "client") k j ms d) ∙ h.client

  header_still : (j : Json) → bytes_eq k (codes "header") ≡ false → IfSome l.type_ (λ t. type_of (get_member (codes "header") (put k j ms)) ≡ Ok t)
  header_still j d = subst (λ o. IfSome l.type_ (λ t. type_of o ≡ Ok t)) (sym (put_elsewhere (codes "header") k j ms d)) h.header

  content_still : (j : Json) → bytes_eq k (codes "content") ≡ false → IfSome l.content (λ c. HasObject (get_member (codes "content") (put k j ms)) (HasContent numbers c))
  content_still j d = subst (λ o. IfSome l.content (λ c. HasObject o (HasContent numbers c))) (sym (put_elsewhere (codes "content") k j ms d)) h.content

  metadata_still : (j : Json) → bytes_eq k (codes "metadata") ≡ false → HasObject (get_member (codes "metadata") (put k j ms)) (IsVersion (version_told l.metadata))
  metadata_still j d = object_kept (codes "metadata") k j ms _ d h.metadata

  buffers_still : (j : Json) → bytes_eq k (codes "buffers") ≡ false → buffers_of (get_member (codes "buffers") (put k j ms)) ≡ Ok l.buffers
  buffers_still j d = ap buffers_of (put_elsewhere (codes "buffers") k j ms d) ∙ h.buffers

  pub set_header : (t : MessageType) (header : Members) → bytes_eq k (codes "header") ≡ true → IsType t header
      → HasLine absent clients numbers (record { type_ = Some t; client = l.client; content = l.content; metadata = l.metadata; buffers = l.buffers }) (put k (object header) ms)
  set_header t header is has =
      record {
        no_other = absent_still (object header);
        client = client_still (object header) (apart k (codes "header") (codes "client") is refl);
        header = ap type_of (put_there (codes "header") k (object header) ms is) ∙ has;
        content = content_still (object header) (apart k (codes "header") (codes "content") is refl);
        metadata = metadata_still (object header) (apart k (codes "header") (codes "metadata") is refl);
        buffers = buffers_still (object header) (apart k (codes "header") (codes "buffers") is refl);
      }

  pub set_content : (c : Content) (content : Members) → bytes_eq k (codes "content") ≡ true → HasContent numbers c content
      → HasLine absent clients numbers (record { type_ = l.type_; client = l.client; content = Some c; metadata = l.metadata; buffers = l.buffers }) (put k (object content) ms)
  set_content c content is has =
      record {
        no_other = absent_still (object content);
        client = client_still (object content) (apart k (codes "content") (codes "client") is refl);
        header = header_still (object content) (apart k (codes "content") (codes "header") is refl);
        content = object_there (codes "content") k ms content (HasContent numbers c) is has;
        metadata = metadata_still (object content) (apart k (codes "content") (codes "metadata") is refl);
        buffers = buffers_still (object content) (apart k (codes "content") (codes "buffers") is refl);
      }

  pub set_metadata : (m : Metadata) (metadata : Members) → bytes_eq k (codes "metadata") ≡ true → IsVersion m.version metadata
      → HasLine absent clients numbers (record { type_ = l.type_; client = l.client; content = l.content; metadata = Some m; buffers = l.buffers }) (put k (object metadata) ms)
  set_metadata m metadata is has =
      record {
        no_other = absent_still (object metadata);
        client = client_still (object metadata) (apart k (codes "metadata") (codes "client") is refl);
        header = header_still (object metadata) (apart k (codes "metadata") (codes "header") is refl);
        content = content_still (object metadata) (apart k (codes "metadata") (codes "content") is refl);
        metadata = object_there (codes "metadata") k ms metadata (IsVersion m.version) is has;
        buffers = buffers_still (object metadata) (apart k (codes "metadata") (codes "buffers") is refl);
      }

  pub set_buffers : (bs : List (List ℕ)) (j : Json) → bytes_eq k (codes "buffers") ≡ true → buffers_of (Some j) ≡ Ok bs
      → HasLine absent clients numbers (record { type_ = l.type_; client = l.client; content = l.content; metadata = l.metadata; buffers = bs }) (put k j ms)
  set_buffers bs j is has =
      record {
        no_other = absent_still j;
        client = client_still j (apart k (codes "buffers") (codes "client") is refl);
        header = header_still j (apart k (codes "buffers") (codes "header") is refl);
        content = content_still j (apart k (codes "buffers") (codes "content") is refl);
        metadata = metadata_still j (apart k (codes "buffers") (codes "metadata") is refl);
        buffers = ap buffers_of (put_there (codes "buffers") k j ms is) ∙ has;
      }

  pub set_client : (n : ℕ) (j : Json) → bytes_eq k (codes "client") ≡ true → client_of clients (Some j) ≡ Ok n
      → HasLine absent clients numbers (record { type_ = l.type_; client = n; content = l.content; metadata = l.metadata; buffers = l.buffers }) (put k j ms)
  set_client n j is has =
      record {
        no_other = absent_still j;
        client = ap (client_of clients) (put_there (codes "client") k j ms is) ∙ has;
        header = header_still j (apart k (codes "client") (codes "header") is refl);
        content = content_still j (apart k (codes "client") (codes "content") is refl);
        metadata = metadata_still j (apart k (codes "client") (codes "metadata") is refl);
        buffers = buffers_still j (apart k (codes "client") (codes "buffers") is refl);
      }

  pub line_kept : (j : Json) → bytes_eq k (codes "header") ≡ false → bytes_eq k (codes "content") ≡ false → bytes_eq k (codes "metadata") ≡ false → bytes_eq k (codes "buffers") ≡ false → bytes_eq k (codes "client") ≡ false
      → HasLine absent clients numbers l (put k j ms)
  line_kept j a b c d e =
      record { no_other = absent_still j; client = client_still j e; header = header_still j a; content = content_still j b; metadata = metadata_still j c; buffers = buffers_still j d }

-- ---- a line before its first member, and after one that few lines have

pub nothing_of : (absent : List ℕ) (clients : ℕ) (numbers : Numbers) (l : Line) → HasNothing l → HasLine absent clients numbers l no_members
nothing_of absent clients numbers l h = rw (h.client, h.header, h.content, h.metadata, h.buffers) (record { no_other = refl; client = refl; header = tt; content = tt; metadata = (no_members, refl, refl); buffers = refl })

module _ (clients : ℕ) (l : Line) (key : RareKey) where
  pub takes_metadata : key ≡ rare_key.Metadata → (m : Metadata) (metadata : Members) → IsVersion m.version metadata → HasTaken key clients l (record { type_ = l.type_; client = l.client; content = l.content; metadata = Some m; buffers = l.buffers }) (object metadata)
  takes_metadata named m metadata has absent numbers k ms is other h =
      let rare : IsRareKey rare_key.Metadata k = subst (λ (x : RareKey). IsRareKey x k) named is.2 in
      set_metadata absent clients numbers ms l k h other m metadata rare has

  pub takes_buffers : key ≡ rare_key.Buffers → (bs : List (List ℕ)) (j : Json) → buffers_of (Some j) ≡ Ok bs → HasTaken key clients l (record { type_ = l.type_; client = l.client; content = l.content; metadata = l.metadata; buffers = bs }) j
  takes_buffers named bs j has absent numbers k ms is other h =
      let rare : IsRareKey rare_key.Buffers k = subst (λ (x : RareKey). IsRareKey x k) named is.2 in
      set_buffers absent clients numbers ms l k h other bs j rare has

  pub takes_client : key ≡ rare_key.Client → (n : ℕ) (j : Json) → client_of clients (Some j) ≡ Ok n → HasTaken key clients l (record { type_ = l.type_; client = n; content = l.content; metadata = l.metadata; buffers = l.buffers }) j
  takes_client named n j has absent numbers k ms is other h =
      let rare : IsRareKey rare_key.Client k = subst (λ (x : RareKey). IsRareKey x k) named is.2 in
      set_client absent clients numbers ms l k h other n j rare has

  pub takes_none : key ≡ rare_key.Other → (j : Json) → HasTaken key clients l l j
  takes_none named j absent numbers k ms is other h =
      let rare : IsRareKey rare_key.Other k = subst (λ (x : RareKey). IsRareKey x k) named is.2 in
      line_kept absent clients numbers ms l k h other j is.0 is.1 rare.0 rare.1 rare.2
