-- A whole number that serde_json made is read from its digits again.
use Rattle.std.proofs.Common.{◌≡◌, ℕ, List, ℤ, pos, negsuc, Bool, true, false, [], Option, Some, None, cond, IfSome, refl, sym, ap, subst, ◌∙◌}
use Rattle.std.specs.Prelude.{Float, option_map, option_and_then, unwrap_or}
use Rattle.std.proofs.lemmas.Bool.{and_parts}
use Rattle.serde_json.specs.Data.{Num, unsigned, negative, float}
use Rattle.serde_json.specs.Find.{as_integer, is_float}
use Rattle.fast_float.specs.Text.{scan}
use Rattle.serde_json.specs.Read.{number_of}
use Rattle.serde_json.specs.Written.{number_text}
use Rattle.serde_json.proofs.Numbers.{number_of-decimal, number_of-negative}
use Rattle.comm_json.specs.Behind.{whole_of, Fits, is_decimal}

some_same : {A : Type 0} {x y : A} → Some x ≡ Some y → x ≡ y
some_same h = cc

some_float : (b : Bool) (x : Float) → option_and_then as_integer (cond b (Some (float x)) None) ≡ None
some_float true x = refl
some_float false x = refl

no_digits : whole_of [] ≡ None
unfolding number_of scan
no_digits = some_float _ _

pub whole_again : (n : Num) (z : ℤ) → as_integer n ≡ Some z → Fits z → whole_of (number_text n) ≡ Some z
whole_again (unsigned n) z is h = ap (option_and_then as_integer) (number_of-decimal n (subst Fits (some_same (sym is)) h)) ∙ is
whole_again (negative (pos n)) z is h = ap (option_and_then as_integer) (number_of-decimal n (subst Fits (some_same (sym is)) h)) ∙ is
whole_again (negative (negsuc n)) z is h = ap (option_and_then as_integer) (number_of-negative n (subst Fits (some_same (sym is)) h)) ∙ is
whole_again (float x) z is h = cc

no_integer : (n : Num) → as_integer n ≡ None → [] ≡ number_text n
no_integer (unsigned n) none = cc
no_integer (negative z) none = cc
no_integer (float x) none = refl

none_again : (n : Num) → as_integer n ≡ None → whole_of (number_text n) ≡ None
none_again n none = ap whole_of (sym (no_integer n none)) ∙ no_digits

pub whole_read : (n : Num) (r : Option ℤ) → r ≡ as_integer n → IfSome r (λ z. Fits z) → r ≡ whole_of (number_text n)
whole_read n None is h = sym (none_again n (sym is))
whole_read n (Some z) is h = sym (whole_again n z (sym is) h)

-- where none is read, nothing is written
pub no_text : (n : Num) (r : Option ℤ) → r ≡ as_integer n → IfSome r (λ z. Fits z) → whole_of (number_text n) ≡ None → [] ≡ number_text n
no_text n None is h none = no_integer n (sym is)
no_text n (Some z) is h none = let two : Some z ≡ None = sym (whole_again n z (sym is) h) ∙ none in cc

float_not_whole : (o : Option Num) → unwrap_or (option_map is_float o) false ≡ true → option_and_then as_integer o ≡ None
float_not_whole None h = cc
float_not_whole (Some (unsigned n)) h = cc
float_not_whole (Some (negative z)) h = cc
float_not_whole (Some (float x)) h = refl

pub decimal_not_whole : (s : List ℕ) → is_decimal s ≡ true → whole_of s ≡ None
decimal_not_whole s h = float_not_whole (number_of s) (and_parts _ _ h).1
