-- Ids that are told apart by their first bytes.
use Rattle.std.proofs.Common.{◌≡◌, ℕ, zero, suc, ◌+◌, ◌*◌, ◌<◌, true, false, cond, List, [], ◌∷◌, length, get_or, take, set, Ordering, Less, Equal, Greater, refl, sym, ap, ◌∙◌, arith}
use Rattle.std.specs.Prelude.{Bool, ◌^◌, ◌==◌, nat_lt}
use Rattle.core.specs.Cmp.{ranks}
use Rattle.std.specs.Int.{byte_at, bytes_high_first, from_be_bytes, to_be_bytes, w64}
use Rattle.std.specs.Ordering.{MatchOrdering, is_lt, nat_cmp, ordering_then}
use Rattle.std.specs.Slice.Scan.{big_endian}
use Rattle.std.proofs.lemmas.Bool.Decides.{nat_tests}
use Rattle.std.proofs.lemmas.Nat.{from_be_bytes-to_be_bytes_8}
use Rattle.comm_core.specs.Machine.{Name}
use Rattle.comm_versions.specs.Chunks.{id_cmp}
use Rattle.comm_versions.specs.IdPrefixes.{padded}

-- ---- the bytes that are copied

pub set_padded : (n : ℕ) (bs : Name) (i d : ℕ) → i < n → i < length bs → set (padded n (take i bs)) i (get_or bs i d) ≡ padded n (take (suc i) bs)
set_padded zero bs i d h k = absurd (omega arith)
set_padded (suc n) [] i d h k = absurd (omega arith)
set_padded (suc n) (x ∷ bs) zero d h k = refl
set_padded (suc n) (x ∷ bs) (suc i) d h k = ap (λ l. x ∷ l) (set_padded n bs i d (omega arith) (omega arith))

-- ---- where starts differ, ids do

zero_below : (b : ℕ) → nat_cmp 0 (suc b) ≡ Less
zero_below b =
    let less : nat_lt 0 (suc b) ≡ true = grind (arith, nat_tests) in ap (λ t. cond t Less (cond (0 == suc b) Equal Greater)) less

above_zero : (b : ℕ) → nat_cmp (suc b) 0 ≡ Greater
above_zero b =
    let no : nat_lt (suc b) 0 ≡ false = grind (arith, nat_tests) in
    let apart : (suc b == 0) ≡ false = grind (arith, nat_tests) in
    ap (λ t. cond t Less (cond (suc b == 0) Equal Greater)) no ∙ ap (λ t. cond t Equal Greater) apart

-- nothing is below zeros
zeros_least : (n : ℕ) (bs : Name) → id_cmp (padded n []) (padded n bs) ≡ Greater → ⊥
zeros_least zero bs h = absurd (cc h)
zeros_least (suc n) [] h = zeros_least n [] h
zeros_least (suc n) (zero ∷ bs) h = zeros_least n bs h
zeros_least (suc n) (suc b ∷ bs) h =
    let less : Less ≡ Greater = sym (ap (λ o. ordering_then o (id_cmp (padded n []) (padded n bs))) (zero_below b)) ∙ h in absurd (cc less)

nothing_above : (n : ℕ) (bs : Name) → id_cmp (padded n bs) (padded n []) ≡ Less → ⊥
nothing_above zero bs h = absurd (cc h)
nothing_above (suc n) [] h = nothing_above n [] h
nothing_above (suc n) (zero ∷ bs) h = nothing_above n bs h
nothing_above (suc n) (suc b ∷ bs) h =
    let more : Greater ≡ Less = sym (ap (λ o. ordering_then o (id_cmp (padded n bs) (padded n []))) (above_zero b)) ∙ h in absurd (cc more)

same_zeros : (n : ℕ) → id_cmp (padded n []) (padded n []) ≡ Equal
same_zeros zero = refl
same_zeros (suc n) = same_zeros n

shorter : (n : ℕ) (y : ℕ) (ys : Name) (o : Ordering) → id_cmp (padded n []) (padded n (y ∷ ys)) ≡ o → (o ≡ Equal → ⊥) → Less ≡ o
shorter n y ys Less is apart = refl
shorter n y ys Equal is apart = absurd (apart refl)
shorter n y ys Greater is apart = absurd (zeros_least n (y ∷ ys) is)

longer : (n : ℕ) (x : ℕ) (xs : Name) (o : Ordering) → id_cmp (padded n (x ∷ xs)) (padded n []) ≡ o → (o ≡ Equal → ⊥) → Greater ≡ o
longer n x xs Less is apart = absurd (nothing_above n (x ∷ xs) is)
longer n x xs Equal is apart = absurd (apart refl)
longer n x xs Greater is apart = refl

pub apart_early : (n : ℕ) (xs ys : Name) (o : Ordering) → id_cmp (padded n xs) (padded n ys) ≡ o → (o ≡ Equal → ⊥) → id_cmp xs ys ≡ o
apart_early zero xs ys o is apart = absurd (apart (sym is))
apart_early (suc n) [] [] o is apart = absurd (apart (sym is ∙ same_zeros (suc n)))
apart_early (suc n) [] (y ∷ ys) o is apart = shorter (suc n) y ys o is apart
apart_early (suc n) (x ∷ xs) [] o is apart = longer (suc n) x xs o is apart
apart_early (suc n) (x ∷ xs) (y ∷ ys) o is apart =
    let more = apart_early n xs ys o in
    (elim (nat_cmp x y) as (λ r. ordering_then r (id_cmp (padded n xs) (padded n ys)) ≡ o → ordering_then r (id_cmp xs ys) ≡ o) [ Less ↦ λ h. h | Equal ↦ λ h. more h apart | Greater ↦ λ h. h ]) is

-- ---- starts as numbers, whose greatest digit is the first byte

is_less : (x y : ℕ) (r : Ordering) → MatchOrdering r (x < y) (x ≡ y) (y < x) → x < y → r ≡ Less
is_less x y Less h l = refl
is_less x y Equal h l = let e : x ≡ y = h in absurd (omega arith)
is_less x y Greater h l = let e : y < x = h in absurd (omega arith)

is_equal : (x y : ℕ) (r : Ordering) → MatchOrdering r (x < y) (x ≡ y) (y < x) → x ≡ y → r ≡ Equal
is_equal x y Less h l = let e : x < y = h in absurd (omega arith)
is_equal x y Equal h l = refl
is_equal x y Greater h l = let e : y < x = h in absurd (omega arith)

is_greater : (x y : ℕ) (r : Ordering) → MatchOrdering r (x < y) (x ≡ y) (y < x) → y < x → r ≡ Greater
is_greater x y Less h l = let e : x < y = h in absurd (omega arith)
is_greater x y Equal h l = let e : x ≡ y = h in absurd (omega arith)
is_greater x y Greater h l = refl

abbrev pub Bytes : List ℕ → Type 0
Bytes bs = (i : ℕ) → get_or bs i 0 < 256

-- a greater digit before outweighs all that follow
rises : (m n : ℕ) (xs ys : List ℕ) → length xs ≡ length ys → Bytes xs → m < n → big_endian m xs < big_endian n ys
rises m n [] [] l b h = h
rises m n [] (y ∷ ys) l b h = absurd (omega arith)
rises m n (x ∷ xs) [] l b h = absurd (omega arith)
rises m n (x ∷ xs) (y ∷ ys) l b h =
    let small : x < 256 = b 0 in rises (m * 256 + x) (n * 256 + y) xs ys (omega arith) (λ i. b (suc i)) (omega arith)

module _ (n x y : ℕ) (xs ys : List ℕ) (l : length xs ≡ length ys) (a : Bytes (x ∷ xs)) (b : Bytes (y ∷ ys)) where
  abbrev this : ℕ
  this = big_endian (n * 256 + x) xs

  abbrev that : ℕ
  that = big_endian (n * 256 + y) ys

  by_digit : (r : Ordering) → MatchOrdering r (x < y) (x ≡ y) (y < x) → id_cmp xs ys ≡ nat_cmp (big_endian (n * 256 + x) xs) (big_endian (n * 256 + x) ys) → ordering_then r (id_cmp xs ys) ≡ nat_cmp this that
  by_digit Less h same = sym (is_less this that (nat_cmp this that) (ranks this that) (let e : x < y = h in rises (n * 256 + x) (n * 256 + y) xs ys l (λ i. a (suc i)) (omega arith)))
  by_digit Equal h same = same ∙ ap (λ z. nat_cmp this (big_endian (n * 256 + z) ys)) h
  by_digit Greater h same = sym (is_greater this that (nat_cmp this that) (ranks this that) (let e : y < x = h in rises (n * 256 + y) (n * 256 + x) ys xs (sym l) (λ i. b (suc i)) (omega arith)))

numbered : (n : ℕ) (xs ys : List ℕ) → length xs ≡ length ys → Bytes xs → Bytes ys → id_cmp xs ys ≡ nat_cmp (big_endian n xs) (big_endian n ys)
numbered n [] [] l a b = sym (is_equal n n (nat_cmp n n) (ranks n n) refl)
numbered n [] (y ∷ ys) l a b = absurd (omega arith)
numbered n (x ∷ xs) [] l a b = absurd (omega arith)
numbered n (x ∷ xs) (y ∷ ys) l a b =
    let rest : length xs ≡ length ys = omega arith in
    by_digit n x y xs ys rest a b (nat_cmp x y) (ranks x y) (numbered (n * 256 + x) xs ys rest (λ i. a (suc i)) (λ i. b (suc i)))

spelt : (bs : List ℕ) → length bs ≡ 8 → from_be_bytes w64 bs ≡ big_endian 0 bs
spelt [] l = absurd (omega arith)
spelt (a ∷ []) l = absurd (omega arith)
spelt (a ∷ b ∷ []) l = absurd (omega arith)
spelt (a ∷ b ∷ c ∷ []) l = absurd (omega arith)
spelt (a ∷ b ∷ c ∷ d ∷ []) l = absurd (omega arith)
spelt (a ∷ b ∷ c ∷ d ∷ e ∷ []) l = absurd (omega arith)
spelt (a ∷ b ∷ c ∷ d ∷ e ∷ f ∷ []) l = absurd (omega arith)
spelt (a ∷ b ∷ c ∷ d ∷ e ∷ f ∷ g ∷ []) l = absurd (omega arith)
spelt (a ∷ b ∷ c ∷ d ∷ e ∷ f ∷ g ∷ h ∷ []) l = omega arith
spelt (a ∷ b ∷ c ∷ d ∷ e ∷ f ∷ g ∷ h ∷ x ∷ bs) l = absurd (omega arith)

compared : (xs ys : List ℕ) → length xs ≡ 8 → length ys ≡ 8 → Bytes xs → Bytes ys → nat_cmp (from_be_bytes w64 xs) (from_be_bytes w64 ys) ≡ id_cmp xs ys
compared xs ys l m a b = ap (λ n. nat_cmp n (from_be_bytes w64 ys)) (spelt xs l) ∙ ap (nat_cmp (big_endian 0 xs)) (spelt ys m) ∙ sym (numbered 0 xs ys (l ∙ sym m) a b)

byte_small : (i n : ℕ) → byte_at i n < 256
byte_small zero n = omega arith
byte_small (suc i) n = omega arith

bytes_small : (k n : ℕ) → Bytes (bytes_high_first k n)
bytes_small zero n zero = omega arith
bytes_small zero n (suc i) = omega arith
bytes_small (suc k) n zero = byte_small k n
bytes_small (suc k) n (suc i) = bytes_small k n i

-- the bytes are in the order of the numbers
numbers_ordered : (m n : ℕ) → m < 2 ^ 64 → n < 2 ^ 64 → nat_cmp m n ≡ id_cmp (to_be_bytes w64 m) (to_be_bytes w64 n)
numbers_ordered m n h k =
    ap (λ x. nat_cmp x n) (sym (from_be_bytes-to_be_bytes_8 m h)) ∙ ap (nat_cmp (from_be_bytes w64 (to_be_bytes w64 m))) (sym (from_be_bytes-to_be_bytes_8 n k))
    ∙ compared (to_be_bytes w64 m) (to_be_bytes w64 n) refl refl (bytes_small 8 m) (bytes_small 8 n)

lesser : (below same : Bool) → below ≡ is_lt (cond below Less (cond same Equal Greater))
lesser true same = refl
lesser false true = refl
lesser false false = refl

pub numbers_below : (m n : ℕ) → m < 2 ^ 64 → n < 2 ^ 64 → nat_lt m n ≡ is_lt (id_cmp (to_be_bytes w64 m) (to_be_bytes w64 n))
numbers_below m n h k = lesser (nat_lt m n) (m == n) ∙ ap is_lt (numbers_ordered m n h k)
