-- Targets that are taken out of a stock.
use Rattle.std.proofs.Common.{◌≡◌, ℕ, zero, suc, ◌<◌, List, [], ◌∷◌, ◌++◌, length, get_or, take, remove, map, Bool, true, false, Some, None, refl, sym, ap, subst, ◌∙◌, arith}
use Rattle.std.specs.Prelude.{◌||◌, OnOk, Result, Ok, Err, is_ok, cond, ⊤}
use Rattle.std.specs.List.{list_any}
use Rattle.comm_targets.specs.Meaning.{Meaning, IsIdle}
use Rattle.comm_core.specs.Tables.{registered_of}
use Rattle.comm_script.specs.Stock.{has_kind, first_of, rest_of, shelved, AreIdle}
use Rattle.comm_script.specs.declared.stock.StockKind.{StockKind}

neither : (x y : Bool) → (x || y) ≡ false → (x ≡ false) × (y ≡ false)
neither true y h = cc
neither false y h = (refl, h)

pub taken_first : {A : Type 0} (means : A → Meaning) (w : StockKind) (ts : List A) (i : ℕ) (t : A) → i < length ts → list_any (λ t. has_kind w (means t).kind) (take i ts) ≡ false
    → has_kind w (means (get_or ts i t)).kind ≡ true → t ≡ get_or ts i t
    → (Some (registered_of (means t)) ≡ first_of w (shelved (map means ts))) × (shelved (map means (remove ts i)) ≡ rest_of w (shelved (map means ts)))
taken_first means w [] i t within before here is = absurd (omega arith)
taken_first means w (u ∷ ts) zero t within before here is = (ap (λ v. Some (registered_of (means v))) is ∙ rw here refl, rw here refl)
taken_first means w (u ∷ ts) (suc i) t within before here is =
    let parts = neither (has_kind w (means u).kind) (list_any (λ t. has_kind w (means t).kind) (take i ts)) before in
    let rest = taken_first means w ts i t (omega arith) parts.1 here is in
    (rest.0 ∙ rw parts.0 refl, ap (λ rs. registered_of (means u) ∷ rs) rest.1 ∙ rw parts.0 refl)

pub taken_none : {A : Type 0} (means : A → Meaning) (w : StockKind) (ts : List A) → list_any (λ t. has_kind w (means t).kind) ts ≡ false
    → (None ≡ first_of w (shelved (map means ts))) × (shelved (map means ts) ≡ rest_of w (shelved (map means ts)))
taken_none means w [] none = (refl, refl)
taken_none means w (u ∷ ts) none =
    let parts = neither (has_kind w (means u).kind) (list_any (λ t. has_kind w (means t).kind) ts) none in
    let rest = taken_none means w ts parts.1 in
    (rest.0 ∙ rw parts.0 refl, ap (λ rs. registered_of (means u) ∷ rs) rest.1 ∙ rw parts.0 refl)

pub idle_at : {A : Type 0} (means : A → Meaning) (ts : List A) (i : ℕ) (t : A) → i < length ts → t ≡ get_or ts i t → AreIdle (map means ts) → IsIdle (means t)
idle_at means [] i t within is idle = absurd (omega arith)
idle_at means (u ∷ ts) zero t within is idle = let P : _ → Type 0 = λ v. IsIdle (means v) in subst P (sym is) idle.0
idle_at means (u ∷ ts) (suc i) t within is idle = idle_at means ts i t (omega arith) is idle.1

pub idle_without : {A : Type 0} (means : A → Meaning) (ts : List A) (i : ℕ) → AreIdle (map means ts) → AreIdle (map means (remove ts i))
idle_without means [] zero idle = tt
idle_without means [] (suc i) idle = tt
idle_without means (u ∷ ts) zero idle = idle.1
idle_without means (u ∷ ts) (suc i) idle = (idle.0, idle_without means ts i idle.1)

pub idle_with : {A : Type 0} (means : A → Meaning) (ts : List A) (t : A) → AreIdle (map means ts) → IsIdle (means t) → AreIdle (map means (ts ++ t ∷ []))
idle_with means [] t idle last = (last, tt)
idle_with means (u ∷ ts) t idle last = (idle.0, idle_with means ts t idle.1 last)

-- a target is put at the end, where there is memory
pub idle_pushed : {A E : Type 0} (means : A → Meaning) (ts new : List A) (t : A) (r : Result ⊤ E) → new ≡ cond (is_ok r) (ts ++ t ∷ []) ts → IsIdle (means t) → AreIdle (map means ts)
    → OnOk r (AreIdle (map means new))
idle_pushed means ts new t (Ok done) is last idle = let P : List _ → Type 0 = λ l. AreIdle (map means l) in subst P (sym is) (idle_with means ts t idle last)
idle_pushed means ts new t (Err e) is last idle = tt
