-- A list or an object whose bracket is written with its first item or member.
use Rattle.std.proofs.Common.{◌≡◌, ℕ, Bool, true, false, if◌then◌else◌, List, [], ◌∷◌, ◌++◌, refl, sym, ap, ◌∙◌, append_assoc}
use Rattle.serde_json.specs.Written.{comma_if}

-- the bracket that is still to be written
abbrev pub opening : Bool → ℕ → List ℕ
opening later bracket = if later then [] else bracket ∷ []

-- an item comes after its bracket or a comma
lead : (later : Bool) (bracket : ℕ) (rest : List ℕ) → opening later bracket ++ (comma_if later ++ rest) ≡ (if later then 44 else bracket) ∷ rest
lead true bracket rest = refl
lead false bracket rest = refl

-- the byte before an item was written, then the item, and the rest waits
pub goes_on : (later : Bool) (bracket : ℕ) (out first next item rest whole : List ℕ) → first ≡ out ++ (if later then 44 else bracket) ∷ [] → next ≡ first ++ item
    → out ++ (opening later bracket ++ (comma_if later ++ (item ++ rest))) ≡ whole → next ++ rest ≡ whole
goes_on later bracket out first next item rest whole byte more so =
    let c = if later then 44 else bracket in
    ap (λ l. l ++ rest) more ∙ append_assoc first item rest ∙ ap (λ l. l ++ (item ++ rest)) byte ∙ append_assoc out (c ∷ []) (item ++ rest)
    ∙ ap (λ l. out ++ l) (sym (lead later bracket (item ++ rest))) ∙ so
