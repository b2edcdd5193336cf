-- A script that is played as it comes.
use Rattle.std.proofs.Common.{◌≡◌, ℕ, ◌<◌, ◌≤◌, List, [], ◌++◌, length, sym, ap, ◌∙◌, append_assoc, append-nil, refl, subst, Option, Some, None, IfSome, take, drop, take-append-drop, arith, false, ◌-◌, inl}
use Rattle.std.proofs.lemmas.List.{length-take}
use Rattle.std.specs.Io.KnownBytes.{Appends, Consumes, IsAtEnd, Keeps, append_known}
use Rattle.comm_value.specs.declared.from_json.Numbers.{Numbers}
use Rattle.comm_core.specs.declared.limits.Limits.{Limits}
use Rattle.comm_script.specs.Lines.{lines_of, has_line_feed, IsWhole}
use Rattle.comm_core.specs.Machine.{Registered}
use Rattle.comm_script.specs.Played.{Standing, played, played_from, Begins, Stops, Pauses}
use Rattle.comm_script.specs.Player.{Says, Cuts}
use Rattle.comm_script.proofs.Cut.{rest_all, whole_more}
use Rattle.comm_script.proofs.Playing.{says_all}

pub appends_none : (a : Option (List ℕ)) → Appends a a []
appends_none None = tt
appends_none (Some xs) = sym (append-nil xs)

appends_more : (a b c : Option (List ℕ)) (xs ys : List ℕ) → Appends a b xs → Appends b c ys → Appends a c (xs ++ ys)
appends_more None b c xs ys p q = tt
appends_more (Some a) None c xs ys p q = absurd p
appends_more (Some a) (Some b) None xs ys p q = absurd q
appends_more (Some a) (Some b) (Some c) xs ys p q = q ∙ ap (λ l. l ++ ys) p ∙ append_assoc a xs ys

left_after : (old new : Option (List ℕ)) (rest bs : List ℕ) → old ≡ Some rest → Consumes old new bs → (more : List ℕ) × (new ≡ Some more) × (rest ≡ bs ++ more)
left_after None new rest bs known p = cc
left_after (Some xs) None rest bs known p = absurd p
left_after (Some xs) (Some ys) rest bs known p = let same : xs ≡ rest = cc in (ys, refl, sym same ∙ p)

pub if_some : {A : Type 0} (o : Option A) (P Q : A → Type 0) → ((a : A) → P a → Q a) → IfSome o P → IfSome o Q
if_some None P Q f h = tt
if_some (Some a) P Q f h = f a h

nothing_left : (left : Option (List ℕ)) (rest : List ℕ) → left ≡ Some rest → IsAtEnd left → rest ≡ []
nothing_left None rest known end = cc
nothing_left (Some xs) rest known end = let same : xs ≡ rest = cc in sym same ∙ end

appends_known : (now : Option (List ℕ)) (said : List ℕ) → Appends now (append_known now said) said
appends_known None said = tt
appends_known (Some xs) said = refl

pub short_chunk : (n : ℕ) (buf : List ℕ) → length buf ≤ 16384 → length (take n buf) ≤ 16384
short_chunk n buf few = omega (arith, length-take n buf)

-- ---- by which numbers are values

module _ (numbers : Numbers) where
  -- what is written of the script so far, for the lines that were read whole, and what is still to be read of it
  pub record Streams {S : Type 0} (stands : Limits → Standing → S → Type 0) (limits : Limits) (stock : List Registered) (input : List ℕ) (before now left : Option (List ℕ)) (s : S) (number : ℕ) (pending : List ℕ) : Type 0 where
    pub written : List ℕ
    pub appends : Appends before now written
    pub whole : List ℕ
    pub ended : IsWhole whole
    pub rest : List ℕ
    pub known : left ≡ Some rest
    pub is : input ≡ whole ++ (pending ++ rest)
    pub says : (more : List ℕ) → Says numbers stands limits stock (whole ++ more) s number more written

  -- what is pending and the rest are still to be said
  still : {S : Type 0} (stands : Limits → Standing → S → Type 0) (limits : Limits) (stock : List Registered) (input : List ℕ) (before now left : Option (List ℕ)) (s : S) (number : ℕ) (pending : List ℕ)
      → (h : Streams stands limits stock input before now left s number pending) → Says numbers stands limits stock input s number (pending ++ h.rest) h.written
  still stands limits stock input before now left s number pending h = subst (λ (l : List ℕ). Says numbers stands limits stock l s number (pending ++ h.rest) h.written) (sym h.is) (h.says (pending ++ h.rest))

  -- nothing was read yet
  pub streams_first : {S : Type 0} (stands : Limits → Standing → S → Type 0) (limits : Limits) (stock : List Registered) (left contents : Option (List ℕ)) (s : S) → stands limits (record { history = []; stock = stock }) s → IfSome left (λ input. Streams stands limits stock input contents contents left s 0 [])
  streams_first stands limits stock None contents s stood = tt
  streams_first stands limits stock (Some input) contents s stood = record {
    written = [];
    appends = appends_none contents;
    whole = [];
    ended = inl refl;
    rest = input;
    known = refl;
    is = refl;
    says = λ more. record { now = record { history = []; stock = stock }; stand = stood; whole = refl };
  }

  -- what was read before moves on by the lines of a piece
  moved : (done pending rest piece more whole kept : List ℕ) → rest ≡ piece ++ more → pending ++ piece ≡ whole ++ kept → done ++ (pending ++ rest) ≡ (done ++ whole) ++ (kept ++ more)
  moved done pending rest piece more whole kept p q =
      ap (λ r. done ++ (pending ++ r)) p ∙ ap (λ l. done ++ l) (sym (append_assoc pending piece more) ∙ ap (λ l. l ++ more) q ∙ append_assoc whole kept more) ∙ sym (append_assoc done whole (kept ++ more))

  -- a piece has come, and what its lines say was written
  pub streams_next : {S : Type 0} (stands : Limits → Standing → S → Type 0) (limits : Limits) (stock : List Registered) (input : List ℕ) (before now then left new : Option (List ℕ)) (s t : S) (number next : ℕ) (pending piece kept none said : List ℕ)
      → Streams stands limits stock input before now left s number pending → Consumes left new piece → none ≡ [] → Cuts numbers stands s number pending piece none t next kept said → Appends now then said
      → Streams stands limits stock input before then new t next kept
  streams_next stands limits stock input before now then left new s t number next pending piece kept none said h read empty cuts sent =
      let after = left_after left new h.rest piece h.known read in
      let held : h.written ≡ h.written ++ none = sym (append-nil h.written) ∙ ap (λ l. h.written ++ l) (sym empty) in
      record {
        written = h.written ++ said;
        appends = appends_more before now then h.written said h.appends sent;
        whole = h.whole ++ cuts.whole;
        ended = whole_more h.whole cuts.whole h.ended cuts.ended;
        rest = after.0;
        known = after.1;
        is = h.is ∙ moved h.whole pending h.rest piece after.0 cuts.whole kept after.2 cuts.is;
        says = λ more.
            cuts.says limits stock ((h.whole ++ cuts.whole) ++ more) more h.written
            (subst (λ (w : List ℕ). Says numbers stands limits stock ((h.whole ++ cuts.whole) ++ more) s number (cuts.whole ++ more) w) held
            (subst (λ (l : List ℕ). Says numbers stands limits stock l s number (cuts.whole ++ more) h.written) (sym (append_assoc h.whole cuts.whole more)) (h.says (cuts.whole ++ more))));
      }

  -- a read of no byte says that nothing is left
  ended : {S : Type 0} (stands : Limits → Standing → S → Type 0) (limits : Limits) (stock : List Registered) (input : List ℕ) (before now left new : Option (List ℕ)) (s : S) (number : ℕ) (pending bytes none said : List ℕ) (n : ℕ) (buf : List ℕ)
      → (h : Streams stands limits stock input before now left s number pending) → bytes ≡ pending → n ≡ 0 → Consumes left new (take n buf) → (n ≡ 0 → 0 < length buf → IsAtEnd new) → 0 < length buf → none ≡ []
      → ((input written : List ℕ) → Says numbers stands limits stock input s number bytes (written ++ none) → written ++ said ≡ played numbers limits stock input)
      → h.written ++ said ≡ played numbers limits stock input
  ended stands limits stock input before now left new s number pending bytes none said n buf h same zero read end some empty plays =
      let after = left_after left new h.rest [] h.known (subst (λ (k : ℕ). Consumes left new (take k buf)) zero read) in
      let over : h.rest ≡ [] = after.2 ∙ nothing_left new after.0 after.1 (end zero some) in
      let whole : pending ++ h.rest ≡ bytes = ap (λ r. pending ++ r) over ∙ append-nil pending ∙ sym same in
      let start : Says numbers stands limits stock input s number bytes (h.written ++ none) =
      subst (λ (w : List ℕ). Says numbers stands limits stock input s number bytes w) (sym (append-nil h.written) ∙ ap (λ l. h.written ++ l) (sym empty))
      (subst (λ (r : List ℕ). Says numbers stands limits stock input s number r h.written) whole (still stands limits stock input before now left s number pending h)) in
      plays input h.written start

  pub streams_ended : {S : Type 0} (stands : Limits → Standing → S → Type 0) (limits : Limits) (stock : List Registered) (input : List ℕ) (before now then left new : Option (List ℕ)) (s : S) (number : ℕ) (pending bytes none said : List ℕ) (n : ℕ) (buf : List ℕ)
      → Streams stands limits stock input before now left s number pending → bytes ≡ pending → n ≡ 0 → Consumes left new (take n buf) → (n ≡ 0 → 0 < length buf → IsAtEnd new) → 0 < length buf → none ≡ []
      → ((input written : List ℕ) → Says numbers stands limits stock input s number bytes (written ++ none) → written ++ said ≡ played numbers limits stock input)
      → Appends now then said → Appends before then (played numbers limits stock input)
  streams_ended stands limits stock input before now then left new s number pending bytes none said n buf h same zero read end some empty plays sent =
      subst (λ (t : List ℕ). Appends before then t) (ended stands limits stock input before now left new s number pending bytes none said n buf h same zero read end some empty plays)
      (appends_more before now then h.written said h.appends sent)

  -- a call that gave nothing
  pub streams_kept : {S : Type 0} (stands : Limits → Standing → S → Type 0) (limits : Limits) (stock : List Registered) (input : List ℕ) (before now left new : Option (List ℕ)) (s : S) (number : ℕ) (pending : List ℕ)
      → Streams stands limits stock input before now left s number pending → Keeps left new → Streams stands limits stock input before now new s number pending
  streams_kept stands limits stock input before now left new s number pending h kept =
      record { written = h.written; appends = h.appends; whole = h.whole; ended = h.ended; rest = h.rest; known = unread left new h.rest h.known kept; is = h.is; says = h.says }
    where
      unread : (left new : Option (List ℕ)) (rest : List ℕ) → left ≡ Some rest → Keeps left new → new ≡ Some rest
      unread None new rest known kept = cc
      unread (Some xs) None rest known kept = absurd kept
      unread (Some xs) (Some ys) rest known kept = let same : xs ≡ rest = cc in ap Some (kept ∙ same)

  -- ---- what was written before a fault

  -- a part of what is said was written
  begins_part : (before now then : Option (List ℕ)) (written said tail text : List ℕ) → Appends before now written → Begins now then said → (written ++ said) ++ tail ≡ text → Begins before then text
  begins_part before now then written said tail text held sent is = record {
    part = written ++ sent.part;
    rest = sent.rest ++ tail;
    appends = appends_more before now then written sent.part held sent.appends;
    is = sym is ∙ ap (λ l. (written ++ l) ++ tail) sent.is ∙ ap (λ l. l ++ tail) (sym (append_assoc written sent.part sent.rest)) ∙ append_assoc (written ++ sent.part) sent.rest tail;
  }

  pub begins_streams : {S : Type 0} (stands : Limits → Standing → S → Type 0) (limits : Limits) (stock : List Registered) (input : List ℕ) (before now left : Option (List ℕ)) (s : S) (number : ℕ) (pending : List ℕ)
      → Streams stands limits stock input before now left s number pending → Begins before now (played numbers limits stock input)
  begins_streams stands limits stock input before now left s number pending h =
      let says = still stands limits stock input before now left s number pending h in
      record { part = h.written; rest = (played_from numbers limits says.now number (lines_of (pending ++ h.rest))).text; appends = h.appends; is = sym says.whole }

  -- a part of what the lines of a piece say was written
  pub begins_chunk : {S : Type 0} (stands : Limits → Standing → S → Type 0) (limits : Limits) (stock : List Registered) (input : List ℕ) (before now then left new : Option (List ℕ)) (s t : S) (number next : ℕ) (pending piece kept none said : List ℕ)
      → Streams stands limits stock input before now left s number pending → Consumes left new piece → none ≡ [] → Cuts numbers stands s number pending piece none t next kept said → Begins now then said
      → Begins before then (played numbers limits stock input)
  unfolding streams_next
  begins_chunk stands limits stock input before now then left new s t number next pending piece kept none said h read empty cuts sent =
      let after = streams_next stands limits stock input before now (append_known now said) left new s t number next pending piece kept none said h read empty cuts (appends_known now said) in
      let says = still stands limits stock input before (append_known now said) new t next kept after in
      begins_part before now then h.written said (played_from numbers limits says.now next (lines_of (kept ++ after.rest))).text (played numbers limits stock input) h.appends sent says.whole

  -- a part of what the last line says was written
  pub begins_last : {S : Type 0} (stands : Limits → Standing → S → Type 0) (limits : Limits) (stock : List Registered) (input : List ℕ) (before now then left new : Option (List ℕ)) (s : S) (number : ℕ) (pending bytes none said : List ℕ) (n : ℕ) (buf : List ℕ)
      → Streams stands limits stock input before now left s number pending → bytes ≡ pending → n ≡ 0 → Consumes left new (take n buf) → (n ≡ 0 → 0 < length buf → IsAtEnd new) → 0 < length buf → none ≡ []
      → ((input written : List ℕ) → Says numbers stands limits stock input s number bytes (written ++ none) → written ++ said ≡ played numbers limits stock input)
      → Begins now then said → Begins before then (played numbers limits stock input)
  begins_last stands limits stock input before now then left new s number pending bytes none said n buf h same zero read end some empty plays sent =
      begins_part before now then h.written said [] (played numbers limits stock input) h.appends sent
      (append-nil (h.written ++ said) ∙ ended stands limits stock input before now left new s number pending bytes none said n buf h same zero read end some empty plays)

  -- what was written is what the whole lines give
  answered : {S : Type 0} (stands : Limits → Standing → S → Type 0) (limits : Limits) (stock : List Registered) (input : List ℕ) (before now left : Option (List ℕ)) (s : S) (number : ℕ) (pending : List ℕ)
      → (h : Streams stands limits stock input before now left s number pending) → Appends before now (played numbers limits stock h.whole)
  answered stands limits stock input before now left s number pending h =
      subst (λ (t : List ℕ). Appends before now t) (says_all numbers stands limits stock (h.whole ++ []) s number h.written (h.says []) ∙ ap (played numbers limits stock) (append-nil h.whole)) h.appends

  -- between two pieces the lines that were read whole are answered
  pub stops_streams : {S : Type 0} (stands : Limits → Standing → S → Type 0) (limits : Limits) (stock : List Registered) (input : List ℕ) (before now left : Option (List ℕ)) (s : S) (number : ℕ) (pending : List ℕ)
      → Streams stands limits stock input before now left s number pending → has_line_feed pending ≡ false → Stops numbers limits stock input left before now
  stops_streams stands limits stock input before now left s number pending h one_line = record {
    whole = h.whole;
    ended = h.ended;
    cut = pending;
    one_line = one_line;
    rest = h.rest;
    known = h.known;
    is = h.is;
    answered = answered stands limits stock input before now left s number pending h;
  }

  -- a piece has come, and none of its lines is answered
  pub pauses_streams : {S : Type 0} (stands : Limits → Standing → S → Type 0) (limits : Limits) (stock : List Registered) (input : List ℕ) (before now left new : Option (List ℕ)) (s : S) (number : ℕ) (pending piece : List ℕ)
      → Streams stands limits stock input before now left s number pending → has_line_feed pending ≡ false → Consumes left new piece → length piece ≤ 16384 → Pauses numbers limits stock input new before now
  pauses_streams stands limits stock input before now left new s number pending piece h one_line read short =
      let after = left_after left new h.rest piece h.known read in
      record {
        whole = h.whole;
        ended = h.ended;
        cut = pending;
        one_line = one_line;
        piece = piece;
        short = short;
        rest = after.0;
        known = after.1;
        is = h.is ∙ ap (λ rest. h.whole ++ (pending ++ rest)) after.2;
        answered = answered stands limits stock input before now left s number pending h;
      }

-- ---- a text that is being written

pub record Writes (before now : Option (List ℕ)) (text rest : List ℕ) : Type 0 where
  pub part : List ℕ
  pub appends : Appends before now part
  pub is : text ≡ part ++ rest

pub writes_next : (before now new : Option (List ℕ)) (text rest taken more : List ℕ) → Writes before now text rest → Appends now new taken → rest ≡ taken ++ more → Writes before new text more
writes_next before now new text rest taken more h sent is = record {
  part = h.part ++ taken;
  appends = appends_more before now new h.part taken h.appends sent;
  is = h.is ∙ ap (λ l. h.part ++ l) is ∙ sym (append_assoc h.part taken more);
}

-- so many bytes of the rest were taken
pub writes_rest : (before now new : Option (List ℕ)) (text rest : List ℕ) (n : ℕ) → Writes before now text rest → Appends now new (take n rest) → Writes before new text (take (length rest - n) (drop n rest))
writes_rest before now new text rest n h sent =
    writes_next before now new text rest (take n rest) (take (length rest - n) (drop n rest)) h sent (sym (take-append-drop n rest) ∙ ap (λ l. take n rest ++ l) (sym (rest_all rest n)))

appends_kept : (before now new : Option (List ℕ)) (xs : List ℕ) → Appends before now xs → Keeps now new → Appends before new xs
appends_kept None now new xs p q = tt
appends_kept (Some a) None new xs p q = absurd p
appends_kept (Some a) (Some b) None xs p q = absurd q
appends_kept (Some a) (Some b) (Some c) xs p q = q ∙ p

pub writes_kept : (before now new : Option (List ℕ)) (text rest : List ℕ) → Writes before now text rest → Keeps now new → Writes before new text rest
writes_kept before now new text rest h kept = record { part = h.part; appends = appends_kept before now new h.part h.appends kept; is = h.is }

-- ---- whatever is played: what a reader lost, and how a writer grew

abbrev pub Loses : Option (List ℕ) → Option (List ℕ) → Type 0
Loses had left = (taken : List ℕ) × Consumes had left taken

abbrev pub Grows : Option (List ℕ) → Option (List ℕ) → Type 0
Grows before now = (said : List ℕ) × Appends before now said

pub loses_none : (had : Option (List ℕ)) → Loses had had
loses_none None = ([], tt)
loses_none (Some xs) = ([], refl)

pub loses_more : (had left new : Option (List ℕ)) (piece : List ℕ) → Loses had left → Consumes left new piece → Loses had new
loses_more None left new piece h read = ([], tt)
loses_more (Some a) None new piece h read = absurd h.1
loses_more (Some a) (Some b) None piece h read = absurd read
loses_more (Some a) (Some b) (Some c) piece h read = (h.0 ++ piece, h.1 ∙ ap (λ l. h.0 ++ l) read ∙ sym (append_assoc h.0 piece c))

pub loses_kept : (had left new : Option (List ℕ)) → Loses had left → Keeps left new → Loses had new
loses_kept None left new h kept = ([], tt)
loses_kept (Some a) None new h kept = absurd h.1
loses_kept (Some a) (Some b) None h kept = absurd kept
loses_kept (Some a) (Some b) (Some c) h kept = (h.0, h.1 ∙ ap (λ l. h.0 ++ l) (sym kept))

-- a read of no byte says that nothing is left
pub loses_all : (had left new : Option (List ℕ)) (n : ℕ) (buf : List ℕ) → Loses had left → Consumes left new (take n buf) → (n ≡ 0 → 0 < length buf → IsAtEnd new) → n ≡ 0 → 0 < length buf → IfSome had (λ _. new ≡ Some [])
loses_all None left new n buf h read end zero some = tt
loses_all (Some a) None new n buf h read end zero some = absurd h.1
loses_all (Some a) (Some b) None n buf h read end zero some = absurd read
loses_all (Some a) (Some b) (Some c) n buf h read end zero some = ap Some (end zero some)

pub grows_none : (before : Option (List ℕ)) → Grows before before
grows_none before = ([], appends_none before)

pub grows_more : (before now then : Option (List ℕ)) (text : List ℕ) → Grows before now → Appends now then text → Grows before then
grows_more before now then text h sent = (h.0 ++ text, appends_more before now then h.0 text h.1 sent)

pub grows_begun : (before now then : Option (List ℕ)) (text : List ℕ) → Grows before now → Begins now then text → Grows before then
grows_begun before now then text h begun = grows_more before now then begun.part h begun.appends
