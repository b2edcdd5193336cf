-- Parts of a text that are written one after another.
use Rattle.std.proofs.Common.{◌≡◌, List, ℕ, [], ◌∷◌, ◌++◌, ap, ◌∙◌, append_assoc}

two : (o a b o1 o2 : List ℕ) → o1 ≡ o ++ a → o2 ≡ o1 ++ b → o2 ≡ o ++ (a ++ b)
two o a b o1 o2 p q = q ∙ ap (λ l. l ++ b) p ∙ append_assoc o a b

-- a sign, a key with its colon, and what follows them
pub signed_key : (sign key b c o o1 o2 o3 o4 : List ℕ) → o1 ≡ o ++ sign → o2 ≡ o1 ++ (key ++ 58 ∷ []) → o3 ≡ o2 ++ b → o4 ≡ o3 ++ c → o4 ≡ o ++ (sign ++ (key ++ 58 ∷ (b ++ c)))
signed_key sign key b c o o1 o2 o3 o4 p q r s =
    two o sign ((key ++ 58 ∷ []) ++ (b ++ c)) o1 o4 p (two o1 (key ++ 58 ∷ []) (b ++ c) o2 o4 q (two o2 b c o3 o4 r s))
    ∙ ap (λ l. o ++ (sign ++ l)) (append_assoc key (58 ∷ []) (b ++ c))

-- the same, where what follows is a list and more
pub signed_list : (sign key items more o o1 o2 o3 o4 o5 : List ℕ) → o1 ≡ o ++ sign → o2 ≡ o1 ++ (key ++ 58 ∷ []) → o3 ≡ o2 ++ 91 ∷ [] → o4 ≡ o3 ++ items → o5 ≡ o4 ++ more
    → o5 ≡ o ++ (sign ++ (key ++ 58 ∷ ((91 ∷ items) ++ more)))
signed_list sign key items more o o1 o2 o3 o4 o5 p q r s t =
    signed_key sign key (91 ∷ []) (items ++ more) o o1 o2 o3 o5 p q r (two o3 items more o4 o5 s t)

-- the first member of an object, before the others
pub first_keyed : (key first rest o o1 o2 : List ℕ) → o1 ≡ o ++ (123 ∷ ((key ++ 58 ∷ []) ++ first)) → o2 ≡ o1 ++ rest → o2 ≡ o ++ (123 ∷ (key ++ 58 ∷ (first ++ rest)))
first_keyed key first rest o o1 o2 p q =
    two o (123 ∷ ((key ++ 58 ∷ []) ++ first)) rest o1 o2 p q
    ∙ ap (λ l. o ++ (123 ∷ l)) (append_assoc (key ++ 58 ∷ []) first rest ∙ append_assoc key (58 ∷ []) (first ++ rest))
