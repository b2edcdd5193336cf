-- The members that a walk over an object has read.
use Rattle.std.proofs.Common.{Bor, Result, Ok, Err, option_map, is_none, MatchOption, MatchResult, OnSome, ℕ, ◌-◌, ◌<◌, ◌≤◌, List, [], ◌∷◌, ◌++◌, length, take, Option, Some, None, Bool, true, false, true≢false, ◌≡◌, refl, sym, ap, subst, ◌∙◌, arith, bytes_eq, IsUtf8}
use Rattle.std.proofs.Math.Seq.{take-length}
use Rattle.std.proofs.lemmas.Slice.Eq.{bytes_eq-Decides}
use Rattle.std.proofs.lemmas.Str.{is_utf8-from_IsUtf8}
use Rattle.std.specs.Bool.{one_answer}
use Rattle.std.specs.Prelude.{⊤}
use Rattle.std.specs.Result.{result_ok}
use Rattle.json.specs.Token.{Token}
use Rattle.json.specs.Reads.{token_of}
use Rattle.json.specs.declared.token.Token.{Token as JsonToken}
use Rattle.json.specs.Lex.{lex, punctuate, tokens}
use Rattle.json.specs.Json.{Json, object, Members, no_members, value, members, parse_map, read_key}
use Rattle.json.proofs.Printed.Utf8.{IsUtf8-are_ascii}
use Rattle.json.proofs.Grammar.{members_end, members_more, value-begin_object, read_key-shorter}
use Rattle.serde_json.specs.Read.{max_depth}
use Rattle.comm_json.specs.Behind.{get_member, in_range, line_value, members_in_range, text_value, tidy, tidy_members, put}
use Rattle.comm_json.proofs.LookUp.{get_member-put, get_member-put_other}
use Rattle.comm_value.proofs.ReadingLemmas.{members_before, none_before, one_more_member, fit_push, tidy_push}
use Rattle.comm_reader.specs.Reader.{ReadsLine, ReadsMembers, ReadsObject, ReadsText}

-- ---- keys

pub apart : (k n q : List ℕ) → bytes_eq k n ≡ true → bytes_eq n q ≡ false → bytes_eq k q ≡ false
apart k n q is differs = ap (λ l. bytes_eq l q) ((bytes_eq-Decides k n).0 is) ∙ differs

pub put_there : (n k : List ℕ) (j : Json) (ms : Members) → bytes_eq k n ≡ true → get_member n (put k j ms) ≡ Some j
put_there n k j ms is = subst (λ l. get_member l (put k j ms) ≡ Some j) ((bytes_eq-Decides k n).0 is) (get_member-put k j ms)

pub put_elsewhere : (n k : List ℕ) (j : Json) (ms : Members) → bytes_eq k n ≡ false → get_member n (put k j ms) ≡ get_member n ms
put_elsewhere n k j ms differs = get_member-put_other n k j ms (λ same. true≢false (sym ((bytes_eq-Decides k n).1 (sym same)) ∙ differs))

-- texts of one length are the same once as many bytes are
pub all_same : (key name : List ℕ) (n : ℕ) → length key ≡ length name → n ≡ length name → take n key ≡ take n name → bytes_eq key name ≡ true
all_same key name n long whole same =
    let end : n ≡ length key = omega (arith, long, whole) in
    (bytes_eq-Decides key name).1 (sym (ap (λ m. take m key) end ∙ take-length key) ∙ same ∙ ap (λ m. take m name) whole ∙ take-length name)

-- ---- the walk

pub record HasSoFar (depth : ℕ) (ts : List Token) (found : Members) (left : List Token) : Type 0 where
  pub count : ℕ
  pub read : List (List ℕ × Json)
  pub enough : length left ≤ count
  pub parsed : members (value depth) (length ts) ts ≡ parse_map (members_before read) (members (value depth) count left)
  pub fits : members_in_range (members_before read no_members) ≡ true
  pub is : tidy_members (members_before read no_members) no_members ≡ found
  pub within : length left ≤ length ts

module _ (depth : ℕ) (ts : List Token) where
  pub nothing_yet : HasSoFar depth ts no_members ts
  nothing_yet = record { count = length ts; read = []; enough = omega arith; parsed = none_before _; fits = refl; is = refl; within = omega arith }

  pub one_more : (found : Members) (left next rest : List Token) (k : List ℕ) (j : Json) → HasSoFar depth ts found left → read_key left ≡ Some (Some k, next) → value depth next ≡ Some (j, rest) → in_range j ≡ true
      → length rest < length next → HasSoFar depth ts (put k (tidy j) found) rest
  one_more found left next rest k j h begun is fits shorter =
      let less : length rest < length left = omega (arith, read_key-shorter left (Some k) next begun) in
      record {
        count = h.count - 1;
        read = h.read ++ (k, j) ∷ [];
        enough = omega (arith, h.enough);
        parsed = h.parsed ∙ ap (parse_map (members_before h.read)) (members_more (value depth) h.count k left next rest j (omega (arith, h.enough)) begun is) ∙ one_more_member h.read (k, j) _;
        fits = fit_push h.read (k, j) h.fits fits;
        is = sym (tidy_push h.read (k, j) no_members) ∙ ap (put k (tidy j)) h.is;
        within = omega (arith, h.within);
      }

  pub all_read : (found : Members) (left rest : List Token) (Are : Members → Type 0) → HasSoFar depth ts found left → read_key left ≡ Some (None, rest) → Are found → ReadsMembers depth ts Are rest
  all_read found left rest Are h end are = (
    members_before h.read no_members,
    h.parsed ∙ ap (parse_map (members_before h.read)) (members_end (value depth) h.count left rest h.enough end),
    h.fits,
    subst Are (sym h.is) are,
  )

-- ---- an object that begins, and a whole text

pub entered : (depth : ℕ) (ts next rest : List Token) (Are : Members → Type 0) → ts ≡ Token.begin_object ∷ next → 0 < depth → ReadsMembers (depth - 1) next Are rest → ReadsObject depth ts Are rest
entered depth ts next rest Are begun deep r = (r.0, ap (value depth) begun ∙ value-begin_object depth next deep ∙ ap (parse_map object) r.1, r.2, r.3)

pub whole_value : (text : List ℕ) (rest : List Token) (Are : Members → Type 0) → ReadsObject max_depth (tokens text) Are rest → rest ≡ [] → ReadsText text Are
whole_value text rest Are r end =
    let read : value max_depth (tokens text) ≡ Some (object r.0, []) = r.1 ∙ ap (λ ts. Some (object r.0, ts)) end in
    (tidy_members r.0 no_members, rw (read, r.2) refl, r.3)

pub whole_text : (text : List ℕ) (next rest : List Token) (Are : Members → Type 0) → tokens text ≡ Token.begin_object ∷ next → ReadsMembers (max_depth - 1) next Are rest → rest ≡ [] → ReadsText text Are
whole_text text next rest Are begun r end = whole_value text rest Are (entered max_depth (tokens text) next rest Are begun (omega arith) r) end

pub whole_line : (bytes : List ℕ) (Are : Members → Type 0) → IsUtf8 bytes → ReadsText bytes Are → ReadsLine bytes Are
whole_line bytes Are utf8 r = (r.0, rw (is_utf8-from_IsUtf8 bytes utf8) r.1, r.2)

no_members_text : text_value (123 ∷ 125 ∷ []) ≡ Some (object no_members)
unfolding value punctuate lex
no_members_text = refl

pub no_members_line : line_value (123 ∷ 125 ∷ []) ≡ Some (object no_members)
no_members_line = rw (is_utf8-from_IsUtf8 (123 ∷ 125 ∷ []) (IsUtf8-are_ascii (123 ∷ 125 ∷ []) refl)) no_members_text

-- ---- what a reader said

pub there : {A : Type 0} (o : Option A) (P : A → Type 0) → MatchOption o ⊥ P → (a : A) × (o ≡ Some a) × P a
there None P h = absurd h
there (Some a) P h = (a, refl, h)

pub for_some : {A : Type 0} (o : Option A) (P Q : A → Type 0) → ((a : A) → P a → Q a) → MatchOption o ⊥ P → MatchOption o ⊥ Q
for_some None P Q f h = h
for_some (Some a) P Q f h = f a h

pub on_some : {A : Type 0} (o : Option A) (P Q : Type 0) → (P → Q) → OnSome o P → OnSome o Q
on_some None P Q f h = tt
on_some (Some a) P Q f h = f h

some_same : {A : Type 0} {x y : A} → Some x ≡ Some y → x ≡ y
some_same h = cc

abbrev NotSome : {A : Type 0} → Option A → Type 0
NotSome None = ⊤
NotSome (Some a) = ⊥

pub ended : (o : Option JsonToken) (old new : List Token) → MatchOption o ((old ≡ []) × (new ≡ [])) (λ t. old ≡ token_of t ∷ new) → is_none o ≡ true → old ≡ []
ended None old new h is = h.0
ended (Some t) old new h is = cc

pub key_read : {E : Type 0} (r : Result (Option (Bor (List ℕ))) E) (o : Option (Option (Bor (List ℕ)))) (f : Option (Bor (List ℕ))) (k : Bor (List ℕ)) (old new : List Token) → o ≡ result_ok r → o ≡ Some f → f ≡ Some k
    → MatchResult r (λ x. read_key old ≡ Some (option_map (λ s. s.now) x, new)) (λ e. read_key old ≡ None) → read_key old ≡ Some (Some k.now, new)
key_read (Ok a) o f k old new same found is h =
    let all : a ≡ Some k = some_same (sym same ∙ found) ∙ is in
    h ∙ ap (λ x. Some (option_map (λ s. s.now) x, new)) all
key_read (Err e) o f k old new same found is h = absurd (subst NotSome (sym same ∙ found) tt)
