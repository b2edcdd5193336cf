-- Lines that are cut.
use Rattle.std.proofs.Common.{◌≡◌, ℕ, zero, suc, ◌+◌, ◌-◌, ◌<◌, ◌≤◌, List, [], ◌∷◌, ◌++◌, length, get_or, take, drop, Bool, true, false, refl, sym, ap, ◌∙◌, arith, add-one, length-drop, inl, inr, subst, append_assoc, append-nil}
use Rattle.std.specs.Prelude.{◌==◌, ◌||◌}
use Rattle.std.proofs.lemmas.Bool.{eqb-true}
use Rattle.std.proofs.lemmas.List.{take_all}
use Rattle.std.proofs.lemmas.List.Folds.{list_any-append}
use Rattle.comm_script.specs.Lines.{lines_of, has_line_feed, IsWhole}

neither : (x y : Bool) → (x || y) ≡ false → (x ≡ false) × (y ≡ false)
neither true y h = cc
neither false y h = (refl, h)

-- what stands before a line feed is the first line
pub cut : (line more : List ℕ) → has_line_feed line ≡ false → lines_of (line ++ 10 ∷ more) ≡ line ∷ lines_of more
cut [] more none = refl
cut (b ∷ line) more none =
    let parts = neither (b == 10) (has_line_feed line) none in
    let rest = cut line more parts.1 in
    rw (parts.0, rest) refl

-- what no line feed ends is one line, if it isn't empty
pub last_line : (b : ℕ) (line : List ℕ) → has_line_feed (b ∷ line) ≡ false → lines_of (b ∷ line) ≡ (b ∷ line) ∷ []
last_line b [] none = let parts = neither (b == 10) false none in rw parts.0 refl
last_line b (c ∷ line) none =
    let parts = neither (b == 10) (has_line_feed (c ∷ line)) none in
    let rest = last_line c line parts.1 in
    rw (parts.0, rest) refl

pub none_joined : (xs ys : List ℕ) → has_line_feed xs ≡ false → has_line_feed ys ≡ false → has_line_feed (xs ++ ys) ≡ false
none_joined xs ys p q = list_any-append (λ b. b == 10) xs ys ∙ rw (p, q) refl

not_true : (b : Bool) → (b ≡ true → ⊥) → b ≡ false
not_true true h = absurd (h refl)
not_true false h = refl

none_taken : (bytes : List ℕ) (n : ℕ) → n ≤ length bytes → ((k : ℕ) → k < n → (get_or bytes k 0 == 10) ≡ true → ⊥) → has_line_feed (take n bytes) ≡ false
none_taken bytes zero within before = refl
none_taken [] (suc n) within before = absurd (omega arith)
none_taken (b ∷ bytes) (suc n) within before =
    let here : (b == 10) ≡ false = not_true (b == 10) (before 0 (omega arith)) in
    rw here (none_taken bytes n (omega arith) (λ k below. before (suc k) (omega arith)))

pub none_before : (bytes : List ℕ) (n : ℕ) → n < length bytes → ((k : ℕ) → 0 ≤ k → k < n → (get_or bytes k 0 == 10) ≡ true → ⊥) → has_line_feed (take n bytes) ≡ false
none_before bytes n within before = none_taken bytes n (omega arith) (λ k below. before k (omega arith) below)

take_whole : (bytes : List ℕ) → take (length bytes) bytes ≡ bytes
take_whole bytes = take_all (length bytes) bytes (omega arith)

pub nowhere : (bytes : List ℕ) → ((k : ℕ) → 0 ≤ k → k < length bytes → (get_or bytes k 0 == 10) ≡ true → ⊥) → has_line_feed bytes ≡ false
nowhere bytes none = ap has_line_feed (sym (take_whole bytes)) ∙ none_taken bytes (length bytes) (omega arith) (λ k below. none k (omega arith) below)

cut_at : (bytes : List ℕ) (n : ℕ) → n < length bytes → get_or bytes n 0 ≡ 10 → bytes ≡ take n bytes ++ 10 ∷ drop (suc n) bytes
cut_at [] n within is = absurd (omega arith)
cut_at (b ∷ bytes) zero within is = ap (λ x. x ∷ bytes) is
cut_at (b ∷ bytes) (suc n) within is = ap (λ rest. b ∷ rest) (cut_at bytes n (omega arith) is)

pub rest_all : (bytes : List ℕ) (n : ℕ) → take (length bytes - n) (drop n bytes) ≡ drop n bytes
rest_all bytes n = take_all _ _ (omega (arith, length-drop n bytes))

-- the parts on both sides of a line feed
pub parts_at : (bytes : List ℕ) (n : ℕ) → n < length bytes → (get_or bytes n 0 == 10) ≡ true → bytes ≡ take n bytes ++ 10 ∷ take (length bytes - (n + 1)) (drop (n + 1) bytes)
parts_at bytes n within is = rw (rest_all bytes (n + 1), add-one n) (cut_at bytes n within (eqb-true (get_or bytes n 0) 10 is))

-- whole lines and more of them
pub whole_more : (xs ys : List ℕ) → IsWhole xs → IsWhole ys → IsWhole (xs ++ ys)
whole_more xs ys (inl none) more = subst IsWhole (ap (λ l. l ++ ys) (sym none)) more
whole_more xs ys (inr one) (inl none) = inr (one.0, ap (λ l. xs ++ l) none ∙ append-nil xs ∙ one.1)
whole_more xs ys (inr one) (inr last) = inr (xs ++ last.0, ap (λ l. xs ++ l) last.1 ∙ sym (append_assoc xs last.0 (10 ∷ [])))
