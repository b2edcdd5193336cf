use Rattle.std.proofs.Common.{◌≡◌, List, ℕ, [], ◌∷◌, ◌++◌, ap, ◌∙◌, append_assoc, codes, decimal}
use Rattle.shared_script.specs.Words.{full_words}
use Rattle.shared_script.proofs.wording.append_unavailable.Goals as goal

two : (o a b o1 o2 : List ℕ) → o1 ≡ o ++ a → o2 ≡ o1 ++ b → o2 ≡ o ++ (a ++ b)
two o a b o1 o2 p q = q ∙ ap (λ l. l ++ b) p ∙ append_assoc o a b

-- a word with a number, a blank, and more words with their line's end
line : (word number words o o1 o2 o3 o4 : List ℕ) → o1 ≡ o ++ (word ++ number) → o2 ≡ o1 ++ 32 ∷ [] → o3 ≡ o2 ++ words → o4 ≡ o3 ++ 10 ∷ [] → o4 ≡ o ++ (word ++ (number ++ (32 ∷ (words ++ 10 ∷ []))))
line word number words o o1 o2 o3 o4 p q r s =
    two o (word ++ number) (32 ∷ (words ++ 10 ∷ [])) o1 o4 p (two o1 (32 ∷ []) (words ++ 10 ∷ []) o2 o4 q (two o2 words (10 ∷ []) o3 o4 r s))
    ∙ ap (λ l. o ++ l) (append_assoc word number (32 ∷ (words ++ 10 ∷ [])))

pub returns : goal.returns
returns c =
    line (codes "unavailable ") (decimal c.args.number) (full_words c.args.full) c.args.out.now.items c.append_counted.new.out.items c.append.new.out.items c.append_full_words.new.out.items c.append-2.new.out.items
    c.in_ok-append_counted.ensures c.in_ok-append.ensures c.in_ok-append_full_words.ensures c.in_ok-append-2.ensures
