-- The tests of what a call is given.
use Rattle.std.proofs.Common.{◌≡◌, ℕ, List, length, sum, Bool, true, false, cond, Ok, Err, Result, IsUtf8, refl, sym, ap}
use Rattle.std.specs.Prelude.{◌==◌}
use Rattle.std.specs.Str.{is_utf8}
use Rattle.std.proofs.lemmas.Bool.{ne_eqb, eqb-false, true_from_ne_false}
use Rattle.std.proofs.lemmas.Str.{IsUtf8-from_is_utf8, is_utf8-from_IsUtf8}
use Rattle.comm_messages.specs.Buffers.{split_buffers}
use Rattle.comm_core.specs.Machine.{Name}
use Rattle.comm_c.specs.Inputs.{buffers_tested, name_tested}
use Rattle.comm_c.specs.declared.input.CallFault.{CallFault}
use Rattle.comm_c.specs.declared.input.CallFault.TheVariants.{BadName, BadSizes}

pub sizes_add_up : (buffers sizes : List ℕ) → sum sizes ≡ length buffers → buffers_tested buffers sizes ≡ Ok (split_buffers buffers sizes)
sizes_add_up buffers sizes is =
    let same : (sum sizes == length buffers) ≡ true = true_from_ne_false _ (λ e. eqb-false (sum sizes) (length buffers) e is) in rw same refl

pub sizes_do_not : (buffers sizes : List ℕ) → ¬ (sum sizes ≡ length buffers) → buffers_tested buffers sizes ≡ Err BadSizes
sizes_do_not buffers sizes not =
    let other : (sum sizes == length buffers) ≡ false = ne_eqb (sum sizes) (length buffers) not in rw other refl

pub is_a_name : (name text : List ℕ) → IsUtf8 name → text ≡ name → name_tested name ≡ Ok text
is_a_name name text utf8 same = rw (is_utf8-from_IsUtf8 name utf8) (ap (λ (t : List ℕ). Ok t) (sym same))

abbrev named : Bool → List ℕ → Result Name CallFault
named b name = cond b (Ok name) (Err BadName)

no_name_at : (b : Bool) (name : List ℕ) → (b ≡ true → IsUtf8 name) → ¬ (IsUtf8 name) → named b name ≡ Err BadName
no_name_at true name is not = absurd (not (is refl))
no_name_at false name is not = refl

pub is_no_name : (name : List ℕ) → ¬ (IsUtf8 name) → name_tested name ≡ Err BadName
is_no_name name not = no_name_at (is_utf8 name) name (IsUtf8-from_is_utf8 name) not
