-- A script that is being played.
use Rattle.std.proofs.Common.{◌≡◌, ℕ, ◌+◌, ◌<◌, ◌≤◌, List, [], ◌∷◌, ◌++◌, length, true, false, sym, ap, ◌∙◌, append_assoc, append-nil, refl, arith, subst, length-append, inl, inr}
use Rattle.std.specs.Prelude.{◌==◌}
use Rattle.std.proofs.lemmas.Bool.{eqb-true}
use Rattle.comm_value.specs.declared.from_json.Numbers.{Numbers}
use Rattle.comm_core.specs.declared.limits.Limits.{Limits}
use Rattle.comm_script.specs.Lines.{lines_of, has_line_feed, IsWhole}
use Rattle.comm_core.specs.Machine.{Registered}
use Rattle.comm_script.specs.Played.{Standing, played, played_from, turn}
use Rattle.comm_script.specs.Player.{Says, Cuts}
use Rattle.comm_script.proofs.Cut.{cut, last_line, none_joined, whole_more}

module _ (numbers : Numbers) where
  -- one more line is played
  says_next : {S : Type 0} (stands : Limits → Standing → S → Type 0) (limits : Limits) (stock : List Registered) (input : List ℕ) (s new : S) (number : ℕ) (rest line more text said : List ℕ) → Says numbers stands limits stock input s number rest text → lines_of rest ≡ line ∷ lines_of more
      → ((now : Standing) → stands limits now s → said ≡ text ++ (turn numbers limits now (number + 1) line).text)
      → ((now : Standing) → stands limits now s → stands limits (turn numbers limits now (number + 1) line).after new)
      → Says numbers stands limits stock input new (number + 1) more said
  says_next stands limits stock input s new number rest line more text said before cut writes keeps =
      let now = before.now in
      let next = (played_from numbers limits (turn numbers limits now (number + 1) line).after (number + 1) (lines_of more)).text in
      let split : (played_from numbers limits now number (lines_of rest)).text ≡ (turn numbers limits now (number + 1) line).text ++ next = ap (λ lines. (played_from numbers limits now number lines).text) cut in
      record {
        now = (turn numbers limits now (number + 1) line).after;
        stand = keeps now before.stand;
        whole = ap (λ l. l ++ next) (writes now before.stand) ∙ append_assoc text (turn numbers limits now (number + 1) line).text next ∙ ap (λ l. text ++ l) (sym split) ∙ before.whole;
      }

  -- the same, after what was written before
  says_more : {S : Type 0} (stands : Limits → Standing → S → Type 0) (limits : Limits) (stock : List Registered) (input : List ℕ) (s new : S) (number : ℕ) (rest line more written text said : List ℕ) → Says numbers stands limits stock input s number rest (written ++ text) → lines_of rest ≡ line ∷ lines_of more
      → ((now : Standing) → stands limits now s → said ≡ text ++ (turn numbers limits now (number + 1) line).text)
      → ((now : Standing) → stands limits now s → stands limits (turn numbers limits now (number + 1) line).after new)
      → Says numbers stands limits stock input new (number + 1) more (written ++ said)
  says_more stands limits stock input s new number rest line more written text said before cut writes keeps =
      says_next stands limits stock input s new number rest line more (written ++ text) (written ++ said) before cut
      (λ now stood. ap (λ l. written ++ l) (writes now stood) ∙ sym (append_assoc written text (turn numbers limits now (number + 1) line).text)) keeps

  -- the lines that end in a chunk are being played: what is pending, and what is left of the chunk
  pub record Plays {S : Type 0} (stands : Limits → Standing → S → Type 0) (sound : S → Type 0) (count : S → ℕ) (first : S) (from : ℕ) (begun chunk before : List ℕ) (s : S) (number : ℕ) (pending rest text : List ℕ) : Type 0 where
    pub room : number + length rest ≤ from + length chunk
    pub within : count s ≤ number
    pub kept : sound s
    pub one_line : has_line_feed pending ≡ false
    pub whole : List ℕ
    pub ended : IsWhole whole
    pub is : begun ++ chunk ≡ whole ++ (pending ++ rest)
    pub says : (limits : Limits) (stock : List Registered) (input more written : List ℕ) → Says numbers stands limits stock input first from (whole ++ more) (written ++ before) → Says numbers stands limits stock input s number more (written ++ text)

  pub plays_first : {S : Type 0} (stands : Limits → Standing → S → Type 0) (sound : S → Type 0) (count : S → ℕ) (first : S) (from : ℕ) (begun chunk before : List ℕ) → count first ≤ from → sound first → has_line_feed begun ≡ false
      → Plays stands sound count first from begun chunk before first from begun chunk before
  plays_first stands sound count first from begun chunk before within kept one_line = record {
    room = omega arith;
    within = within;
    kept = kept;
    one_line = one_line;
    whole = [];
    ended = inl refl;
    is = refl;
    says = λ limits stock input more written start. start;
  }

  shorter : (line rest whole : List ℕ) → whole ≡ line ++ 10 ∷ rest → length rest + 1 ≤ length whole
  shorter line rest whole is =
      let size : length whole ≡ length line + length (10 ∷ rest) = ap length is ∙ length-append line (10 ∷ rest) in
      omega (arith, size)

  pub falls : (line rest whole : List ℕ) → whole ≡ line ++ 10 ∷ rest → length rest < length whole
  falls line rest whole is = omega (arith, shorter line rest whole is)

  -- a line that ends moves from what is pending and the rest to what is played
  moved : (done pending line ended rest more : List ℕ) → ended ≡ pending ++ line → rest ≡ line ++ 10 ∷ more → done ++ (pending ++ rest) ≡ (done ++ (ended ++ 10 ∷ [])) ++ more
  moved done pending line ended rest more p q =
      let here : pending ++ rest ≡ (ended ++ 10 ∷ []) ++ more = ap (λ r. pending ++ r) q ∙ sym (append_assoc pending line (10 ∷ more)) ∙ ap (λ e. e ++ 10 ∷ more) (sym p) ∙ sym (append_assoc ended (10 ∷ []) more) in
      ap (λ l. done ++ l) here ∙ sym (append_assoc done (ended ++ 10 ∷ []) more)

  pub plays_next : {S : Type 0} (stands : Limits → Standing → S → Type 0) (sound : S → Type 0) (count : S → ℕ) (first : S) (from : ℕ) (begun chunk before : List ℕ) (s new : S) (number : ℕ) (pending rest line more text said whole : List ℕ)
      → Plays stands sound count first from begun chunk before s number pending rest text → rest ≡ line ++ 10 ∷ more → has_line_feed line ≡ false → whole ≡ pending ++ line → sound new → count new ≤ count s + 1
      → ((limits : Limits) (now : Standing) → stands limits now s → said ≡ text ++ (turn numbers limits now (number + 1) whole).text)
      → ((limits : Limits) (now : Standing) → stands limits now s → stands limits (turn numbers limits now (number + 1) whole).after new)
      → Plays stands sound count first from begun chunk before new (number + 1) [] more said
  plays_next stands sound count first from begun chunk before s new number pending rest line more text said whole h is none line_is kept counted writes keeps =
      let ends : has_line_feed whole ≡ false = ap has_line_feed line_is ∙ none_joined pending line h.one_line none in
      record {
        room = omega (arith, h.room, shorter line more rest is);
        within = omega (arith, h.within, counted);
        kept = kept;
        one_line = refl;
        whole = h.whole ++ (whole ++ 10 ∷ []);
        ended = whole_more h.whole (whole ++ 10 ∷ []) h.ended (inr (whole, refl));
        is = h.is ∙ moved h.whole pending line whole rest more line_is is;
        says = λ limits stock input others written start.
            says_more stands limits stock input s new number ((whole ++ 10 ∷ []) ++ others) whole others written text said
            (h.says limits stock input ((whole ++ 10 ∷ []) ++ others) written
            (subst (λ (l : List ℕ). Says numbers stands limits stock input first from l (written ++ before)) (append_assoc h.whole (whole ++ 10 ∷ []) others) start))
            (ap lines_of (append_assoc whole (10 ∷ []) others) ∙ cut whole others ends) (writes limits) (keeps limits);
      }

  -- nothing of the chunk is left, and what was left of it is pending
  pub plays_all : {S : Type 0} (stands : Limits → Standing → S → Type 0) (sound : S → Type 0) (count : S → ℕ) (first : S) (from : ℕ) (begun chunk before : List ℕ) (s : S) (number : ℕ) (pending rest text kept : List ℕ) → Plays stands sound count first from begun chunk before s number pending rest text → kept ≡ pending ++ rest
      → Cuts numbers stands first from begun chunk before s number kept text
  plays_all stands sound count first from begun chunk before s number pending rest text kept h is = record { whole = h.whole; ended = h.ended; is = h.is ∙ ap (λ k. h.whole ++ k) (sym is); says = h.says }

  pub says_all : {S : Type 0} (stands : Limits → Standing → S → Type 0) (limits : Limits) (stock : List Registered) (input : List ℕ) (s : S) (number : ℕ) (text : List ℕ) → Says numbers stands limits stock input s number [] text → text ≡ played numbers limits stock input
  says_all stands limits stock input s number text before = sym (append-nil text) ∙ before.whole

  empty_is : (xs : List ℕ) → (length xs == 0) ≡ true → xs ≡ []
  empty_is [] h = refl
  empty_is (x ∷ xs) h = absurd (omega (arith, eqb-true (length (x ∷ xs)) 0 h))

  -- nothing is pending at the end
  pub says_none : {S : Type 0} (stands : Limits → Standing → S → Type 0) (limits : Limits) (stock : List Registered) (input : List ℕ) (s : S) (number : ℕ) (pending text : List ℕ) → (length pending == 0) ≡ true → Says numbers stands limits stock input s number pending text → text ≡ played numbers limits stock input
  says_none stands limits stock input s number pending text end before = says_all stands limits stock input s number text (subst (λ (p : List ℕ). Says numbers stands limits stock input s number p text) (empty_is pending end) before)

  last_is : (pending : List ℕ) → has_line_feed pending ≡ false → (length pending == 0) ≡ false → lines_of pending ≡ pending ∷ lines_of []
  last_is [] none some = cc
  last_is (b ∷ pending) none some = last_line b pending none

  -- the last line is played
  pub says_last : {S : Type 0} (stands : Limits → Standing → S → Type 0) (limits : Limits) (stock : List Registered) (input : List ℕ) (s new : S) (number : ℕ) (pending written text said : List ℕ) → has_line_feed pending ≡ false → (length pending == 0) ≡ false → Says numbers stands limits stock input s number pending (written ++ text)
      → ((now : Standing) → stands limits now s → said ≡ text ++ (turn numbers limits now (number + 1) pending).text)
      → ((now : Standing) → stands limits now s → stands limits (turn numbers limits now (number + 1) pending).after new)
      → written ++ said ≡ played numbers limits stock input
  says_last stands limits stock input s new number pending written text said none some before writes keeps =
      says_all stands limits stock input new (number + 1) (written ++ said)
      (says_more stands limits stock input s new number pending pending [] written text said before (last_is pending none some) writes keeps)
