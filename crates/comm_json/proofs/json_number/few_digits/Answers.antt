use Rattle.std.proofs.Common.{rules, ◌≡◌, ℕ, ◌<◌, ◌≤◌, ◌^◌, List, [], ◌∷◌, ◌++◌, length, take, get_or, Some, false, refl, sym, ap, subst, ◌∙◌, arith, append-nil, take_all, lt-ltb, ne_eqb}
use Rattle.std.proofs.lemmas.Int.Digits.{digits_more, digits_value_more}
use Rattle.std.proofs.lemmas.List.{length-take}
use Rattle.std.proofs.lemmas.Str.{digit_value_digit}
use Rattle.std.proofs.lemmas.Str.Parse.{digit_from_value, digits_value_short, numerals_by_value, tells_digits}
use Rattle.std.specs.Char.{digit_value}
use Rattle.std.specs.Str.Parse.{AllDigits, digits_value}
use Rattle.fast_float.specs.Text.{Parts, IsWellFormed, scan}
use Rattle.fast_float.proofs.Writing.{scan-text_of}
use Rattle.serde_json.specs.Data.{unsigned}
use Rattle.serde_json.specs.Read.{number_of, number_from}
use Rattle.comm_json.proofs.json_number.few_digits.Goals as goal

-- the parts of a text of digits
abbrev digits : List ℕ → Parts
digits ds = record { whole = ds; point = false; fraction = []; exponent_negative = false; exponent = []; len = length (ds ++ []) }

well_formed : (ds : List ℕ) → AllDigits 10 ds → IsWellFormed (digits ds)
well_formed ds all = record { whole_digits = all; fraction_digits = tt; exponent_digits = tt; no_point = λ _. refl; no_exponent = λ _. refl; len_is = refl }

no_minus : (ds : List ℕ) → AllDigits 10 ds → 0 < length ds → get_or ds 0 0 ≡ 45 → ⊥
no_minus [] all some e = omega arith
no_minus (d ∷ ds) all some e = omega (arith, digit_from_value d all.0)

small : (ds : List ℕ) (k : ℕ) → AllDigits 10 ds → length ds ≤ k → digits_value 10 ds < 10 ^ k
small = digits_value_short (numerals_by_value (AllDigits 10) tells_digits)

is_their_value : (ds : List ℕ) → AllDigits 10 ds → 0 < length ds → length ds ≤ 18 → number_of ds ≡ Some (unsigned (digits_value 10 ds))
unfolding number_of
is_their_value ds all some few =
    let fits : digits_value 10 ds < 2 ^ 64 = omega (arith, small ds 18 all few) in
    rw (ne_eqb (get_or ds 0 0) 45 (no_minus ds all some))
    (ap (number_from false) (ap scan (sym (append-nil ds)) ∙ scan-text_of (digits ds) (well_formed ds all))
    ∙ rw (append-nil ds, lt-ltb _ _ some, lt-ltb _ _ fits) refl)

below : (ds : List ℕ) (i : ℕ) → AllDigits 10 (take i ds) → i < length ds → length ds ≤ 18 → digits_value 10 (take i ds) < 10 ^ 17
below ds i all more few = small (take i ds) 17 all (omega (arith, length-take i ds))

pub loop-digit-init : goal.loop-digit-init
loop-digit-init c = (tt, refl)

pub overflow_mul-value : goal.overflow_mul-value
overflow_mul-value c =
    omega (arith, c.loop-digit.invariant.1, below _ _ c.loop-digit.invariant.0 c.loop-digit-test.true c.if-digits-gt18.false)

pub overflow_add-value : goal.overflow_add-value
overflow_add-value c =
    let small_digit = digit_from_value (get_or c.as_bytes-digits.result.now c.loop-digit.digit-index 0) c.if-not-is_ascii_digit.ensures.bound in
    omega (arith, small_digit, c.loop-digit.invariant.1, below _ _ c.loop-digit.invariant.0 c.loop-digit-test.true c.if-digits-gt18.false)

pub loop-digit-preserved : goal.loop-digit-preserved
loop-digit-preserved c =
    let bytes = c.as_bytes-digits.result.now in
    let i = c.loop-digit.digit-index in
    let digit : digit_value (get_or bytes i 0) < 10 = c.if-not-is_ascii_digit.ensures.bound in
    let invariant = c.loop-digit.invariant in (
      digits_more 10 bytes i c.loop-digit-test.true invariant.0 digit,
      omega (arith, invariant.1, digits_value_more 10 bytes i c.loop-digit-test.true, digit_value_digit (get_or bytes i 0) (digit_from_value (get_or bytes i 0) digit)),
    )

pub returns : goal.returns
returns c =
    let bytes = c.as_bytes-digits.result.now in
    let all : take c.loop-digit.digit-index bytes ≡ bytes = take_all _ bytes c.loop-digit-test.false in
    let some : 0 < length bytes = search (rules) in
    ap number_of (sym c.as_bytes-digits.ensures.value)
    ∙ is_their_value bytes (subst (AllDigits 10) all c.loop-digit.invariant.0) some c.if-digits-gt18.false
    ∙ ap (λ n. Some (unsigned n)) (sym (c.loop-digit.invariant.1 ∙ ap (digits_value 10) all))
