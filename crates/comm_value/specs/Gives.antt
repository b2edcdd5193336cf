-- What a function that may fail gives: a value, or a fault. Out of memory leaves the result open.
use Rattle.std.specs.Prelude.{◌≡◌, Bool, true, false, Option, Some, None, Result, Ok, Err, ⊤}

infixl 10 ◌>>=◌
abbrev pub ◌>>=◌ : {A B F : Type 0} → Result A F → (A → Result B F) → Result B F
(Ok x) >>= f = f x
(Err fault) >>= f = Err fault

abbrev pub or_fault : {A F : Type 0} → F → Option A → Result A F
or_fault fault (Some x) = Ok x
or_fault fault None = Err fault

-- after out of memory nothing is known, else the definition gives this fault
abbrev pub Fails : {A F : Type 0} → Bool → F → Result A F → Type 0
Fails true fault said = ⊤
Fails false fault said = said ≡ Err fault

-- what a function returned, seen by view, is what the definition gives; is_memory tells the fault for out of memory
abbrev pub Gives : {X A F : Type 0} → (F → Bool) → (X → A) → Result X F → Result A F → Type 0
Gives is_memory view (Ok x) said = said ≡ Ok (view x)
Gives is_memory view (Err fault) said = Fails (is_memory fault) fault said
