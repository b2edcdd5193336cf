-- A text goes out in runs that need no escape, and escapes between them.
use Rattle.std.proofs.Common.{◌≡◌, ℕ, ◌+◌, ◌-◌, ◌<◌, ◌≤◌, Bool, true, false, ◌&&◌, not, IsTrue, List, [], ◌∷◌, ◌++◌, length, get_or, take, drop, refl, sym, ap, ◌∙◌, arith, add-one, append_assoc, append-nil, get_or-drop}
use Rattle.std.proofs.Math.Seq.{drop-cons, take-add}
use Rattle.std.proofs.lemmas.List.{take_more, take-append-drop, drop-drop, get_or-take}
use Rattle.std.proofs.lemmas.Simd.{length-chunk}
use Rattle.std.specs.Bool.{OnFalse}
use Rattle.json.specs.Run.{is_plain}
use Rattle.json.specs.Print.{escape_byte, escape}
use Rattle.json.specs.Written.{PlainBetween}
use Rattle.json.proofs.Printed.Plain.{escape_on_plain}

next : (bytes : List ℕ) (i : ℕ) → i < length bytes → escape (drop i bytes) ≡ escape_byte (get_or bytes i 0) ++ escape (drop (i + 1) bytes)
next bytes i h = let cut : drop i bytes ≡ get_or bytes i 0 ∷ drop (i + 1) bytes = rw add-one (drop-cons bytes i 0 h) in ap escape cut

escape_append : (xs ys : List ℕ) → escape (xs ++ ys) ≡ escape xs ++ escape ys
escape_append [] ys = refl
escape_append (x ∷ xs) ys = ap (λ l. escape_byte x ++ l) (escape_append xs ys) ∙ sym (append_assoc (escape_byte x) (escape xs) (escape ys))

-- the bytes from i up to j need no escape, and those from j on are still to be escaped
abbrev pub IsRun : List ℕ → ℕ → ℕ → Type 0
IsRun bytes i j = escape (drop i bytes) ≡ take (j - i) (drop i bytes) ++ escape (drop j bytes)

pub no_run : (bytes : List ℕ) (i : ℕ) → IsRun bytes i i
no_run bytes i = let none : i - i ≡ 0 = omega arith in ap (λ n. take n (drop i bytes) ++ escape (drop i bytes)) (sym none)

longer : (bytes : List ℕ) (from at n : ℕ) → from ≤ at → IsRun bytes from at → escape (drop at bytes) ≡ take n (drop at bytes) ++ escape (drop (at + n) bytes) → IsRun bytes from (at + n)
longer bytes from at n h before more =
    let all : at + n - from ≡ (at - from) + n = omega arith in
    let place : from + (at - from) ≡ at = omega arith in
    let run : List ℕ = take (at - from) (drop from bytes) in
    let rest : List ℕ = escape (drop (at + n) bytes) in
    let front = ap (λ m. take m (drop from bytes)) all ∙ take-add (at - from) n (drop from bytes)
    ∙ ap (λ l. run ++ take n l) (drop-drop (at - from) from bytes ∙ ap (λ k. drop k bytes) place) in
    before ∙ ap (λ l. run ++ l) more ∙ sym (append_assoc run (take n (drop at bytes)) rest) ∙ ap (λ l. l ++ rest) (sym front)

-- a block that a vector showed to need none
pub past_block : (bytes : List ℕ) (from at n : ℕ) → from ≤ at → at + n ≤ length bytes → IsRun bytes from at → PlainBetween bytes at (at + n) → IsRun bytes from (at + n)
past_block bytes from at n h room before plain =
    let block : List ℕ = take n (drop at bytes) in
    let long : length block ≡ n = length-chunk at n bytes room in
    let each : PlainBetween block 0 (length block) =
    λ k p q. ap is_plain (get_or-take n (drop at bytes) k 0 (omega arith) ∙ get_or-drop at bytes k 0) ∙ plain (at + k) (omega arith) (omega arith) in
    let cut = sym (take-append-drop n (drop at bytes)) ∙ ap (λ l. block ++ l) (drop-drop n at bytes) in
    longer bytes from at n h before (ap escape cut ∙ escape_append block (drop (at + n) bytes) ∙ ap (λ l. l ++ escape (drop (at + n) bytes)) (escape_on_plain true block each))

-- a byte that needs none
pub past_byte : (bytes : List ℕ) (from at : ℕ) → from ≤ at → at < length bytes → IsRun bytes from at → escape_byte (get_or bytes at 0) ≡ get_or bytes at 0 ∷ [] → IsRun bytes from (at + 1)
past_byte bytes from at h below before plain =
    let one : take 1 (drop at bytes) ≡ get_or bytes at 0 ∷ [] = ap (take 1) (drop-cons bytes at 0 below) in
    longer bytes from at 1 h before (next bytes at below ∙ ap (λ l. l ++ escape (drop (at + 1) bytes)) (plain ∙ sym one))

-- a run was written
pub run_written : (out new bytes text : List ℕ) (i j : ℕ) → new ≡ out ++ take (j - i) (drop i bytes) → IsRun bytes i j → out ++ escape (drop i bytes) ≡ text → new ++ escape (drop j bytes) ≡ text
run_written out new bytes text i j more run so =
    ap (λ l. l ++ escape (drop j bytes)) more ∙ append_assoc out (take (j - i) (drop i bytes)) (escape (drop j bytes)) ∙ ap (λ l. out ++ l) (sym run) ∙ so

-- an escape was written
pub escape_written : (out new bytes text : List ℕ) (i : ℕ) → i < length bytes → new ≡ out ++ escape_byte (get_or bytes i 0) → out ++ escape (drop i bytes) ≡ text → new ++ escape (drop (i + 1) bytes) ≡ text
escape_written out new bytes text i below more so =
    ap (λ l. l ++ escape (drop (i + 1) bytes)) more ∙ append_assoc out (escape_byte (get_or bytes i 0)) (escape (drop (i + 1) bytes)) ∙ ap (λ l. out ++ l) (sym (next bytes i below)) ∙ so

-- one more byte that needs none
pub plain_so_far : (bytes : List ℕ) (i : ℕ) (plain odd : Bool) → i < length bytes → OnFalse odd (escape_byte (get_or bytes i 0) ≡ get_or bytes i 0 ∷ [])
    → (IsTrue plain → escape (take i bytes) ≡ take i bytes) → IsTrue (plain && not odd) → escape (take (i + 1) bytes) ≡ take (i + 1) bytes
plain_so_far bytes i false odd below one before so = absurd (cc)
plain_so_far bytes i true true below one before so = absurd (cc)
plain_so_far bytes i true false below one before so =
    let x : ℕ = get_or bytes i 0 in
    let more : take (i + 1) bytes ≡ take i bytes ++ x ∷ [] = take_more bytes i 0 below in
    ap escape more ∙ escape_append (take i bytes) (x ∷ []) ∙ ap (λ l. l ++ escape (x ∷ [])) (before refl) ∙ ap (λ l. take i bytes ++ l) (append-nil (escape_byte x) ∙ one) ∙ sym more
