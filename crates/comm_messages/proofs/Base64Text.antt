-- Base64 in a JSON string: no symbol needs an escape, and what is encoded in place.
use Rattle.std.proofs.Common.{◌≡◌, ◌+◌, ◌-◌, ◌*◌, ◌/◌, ◌%◌, ◌<◌, ◌≤◌, ◌==◌, ℕ, zero, suc, true, List, [], ◌∷◌, ◌++◌, length, take, drop, map, replicate, slice_index, refl, sym, ap, ◌∙◌, arith}
use Rattle.std.proofs.lemmas.Bool.{or_parts, not-true, eqb-false, ltb-false}
use Rattle.std.proofs.lemmas.Grind.{flat_map-append}
use Rattle.std.proofs.lemmas.List.{append_assoc, append-nil, drop_all, take_all, take_at, length-append}
use borrow.Rule.Slice.PartMut.{put_mid}
use Rattle.base64.specs.Rfc4648.{encode_group, encode_symbols, padding_len}
use Rattle.base64.specs.GeneralPurpose.{encode_of, IsBytes}
use Rattle.base64.specs.Engines.{standard}
use Rattle.base64.proofs.Tables.{all_below_at}
use Rattle.base64.proofs.Encoding.{written_last}
use Rattle.json.specs.Run.{is_plain, is_stop}
use Rattle.json.specs.Print.{escape_byte, escape, quoted}
use Rattle.json.proofs.Printed.Strings.{escape_byte_plain}
use Rattle.comm_messages.specs.Parts.{GrowsBy}

abbrev symbols : List ℕ
symbols = standard.encode_table

kept_symbol : (i : ℕ) → i < 64 → escape_byte (slice_index symbols i) ≡ slice_index symbols i ∷ []
kept_symbol i below =
    let x : ℕ = slice_index symbols i in
    let plain : is_plain x ≡ true = all_below_at (λ k. is_plain (slice_index symbols k)) 64 i refl below in
    let none = or_parts _ _ (not-true (is_stop x) plain) in
    let tests = or_parts (x == 34) _ none.0 in
    escape_byte_plain x (eqb-false x 34 tests.0) (eqb-false x 92 tests.1) (ltb-false x 32 none.1)

abbrev Within : List ℕ → Type 0
Within [] = Unit {0}
Within (i ∷ is) = (i < 64) × Within is

kept_symbols : (is : List ℕ) → Within is → escape (map (slice_index symbols) is) ≡ map (slice_index symbols) is
kept_symbols [] h = refl
kept_symbols (i ∷ is) h = λ j. kept_symbol i h.0 j ++ kept_symbols is h.1 j

kept_message : (m : List ℕ) → IsBytes m → escape (encode_symbols symbols m) ≡ encode_symbols symbols m
unfolding encode_symbols
kept_message [] h = refl
kept_message (a ∷ []) h =
    let fits_a : a < 256 = h 0 in
    kept_symbols ((a / 4) ∷ (a % 4 * 16) ∷ []) (omega arith, (omega arith, tt))
kept_message (a ∷ b ∷ []) h =
    let fits_a : a < 256 = h 0 in
    let fits_b : b < 256 = h 1 in
    kept_symbols ((a / 4) ∷ (a % 4 * 16 + b / 16) ∷ (b % 16 * 4) ∷ []) (omega arith, (omega arith, (omega arith, tt)))
kept_message (a ∷ b ∷ c ∷ rest) h =
    let fits_a : a < 256 = h 0 in
    let fits_b : b < 256 = h 1 in
    let fits_c : c < 256 = h 2 in
    let group = kept_symbols ((a / 4) ∷ (a % 4 * 16 + b / 16) ∷ (b % 16 * 4 + c / 64) ∷ (c % 64) ∷ []) (omega arith, (omega arith, (omega arith, (omega arith, tt)))) in
    flat_map-append escape_byte (encode_group symbols a b c) (encode_symbols symbols rest)
    ∙ (λ j. group j ++ kept_message rest (λ i. h (suc (suc (suc i)))) j)

kept_padding : (n : ℕ) → escape (replicate n 61) ≡ replicate n 61
unfolding escape_byte
kept_padding zero = refl
kept_padding (suc n) = ap (λ l. 61 ∷ l) (kept_padding n)

pub kept : (m : List ℕ) → IsBytes m → escape (encode_of standard m) ≡ encode_of standard m
kept m h = flat_map-append escape_byte (encode_symbols symbols m) _ ∙ (λ j. kept_message m h j ++ kept_padding (padding_len (length m)) j)

-- what stands once ys are put past `front`, in place of `fill`
put_past : (front fill all ys : List ℕ) (start : ℕ) → all ≡ front ++ fill → start ≡ length front → put_mid start (length all - start) all ys ≡ front ++ ys
put_past front fill all ys start is at =
    let within : start ≤ length all = omega (arith, ap length is, length-append front fill, at) in
    let past : start + (length all - start) ≡ length all = omega arith in
    let none : drop (start + (length all - start)) all ≡ [] = ap (λ k. drop k all) past ∙ drop_all (length all) all (omega arith) in
    let before : take start all ≡ front = ap (take start) is ∙ take_at front fill start (sym at) in
    written_last (take start all ++ ys) all all ys ys start (length all - start) refl refl refl
    ∙ ap (λ l. (take start all ++ ys) ++ l) none ∙ append-nil _ ∙ ap (λ l. l ++ ys) before

-- the same in a vector of len items, of which a slice was lent
pub encoded_past : (front fill shown items ys text : List ℕ) (start len : ℕ) → shown ≡ front ++ fill → length shown ≡ length items → len ≡ length items → start ≡ length front → ys ≡ text → length ys ≡ length fill
    → take len (put_mid start (length shown - start) shown ys ++ drop (length (put_mid start (length shown - start) shown ys)) items) ≡ front ++ text
encoded_past front fill shown items ys text start len is same all at written long =
    let put : List ℕ = put_mid start (length shown - start) shown ys in
    let past : put ≡ front ++ ys = put_past front fill shown ys start is at in
    let size : length put ≡ length items = ap length past ∙ length-append front ys ∙ ap (λ n. length front + n) long ∙ sym (length-append front fill) ∙ ap length (sym is) ∙ same in
    ap (take len) (ap (λ l. put ++ l) (drop_all (length put) items (omega arith)) ∙ append-nil put) ∙ take_all len put (omega arith) ∙ past ∙ ap (λ l. front ++ l) written

pub in_quotes : (old front put new text : List ℕ) → GrowsBy old (34 ∷ []) front → put ≡ front ++ text → escape text ≡ text → GrowsBy put (34 ∷ []) new → GrowsBy old (quoted text) new
in_quotes old front put new text first is plain last = record {
  is = last.is ∙ ap (λ l. l ++ 34 ∷ []) (is ∙ ap (λ l. l ++ text) first.is) ∙ append_assoc (old ++ 34 ∷ []) text (34 ∷ [])
      ∙ append_assoc old (34 ∷ []) (text ++ 34 ∷ []) ∙ ap (λ l. old ++ 34 ∷ (l ++ 34 ∷ [])) (sym plain);
}
