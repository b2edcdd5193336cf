-- The entries up to a place, and from it on, as a walk goes on by one.
use Rattle.std.proofs.Common.{◌≡◌, ℕ, ◌+◌, suc, List, [], ◌∷◌, ◌++◌, Option, Some, None, refl, ap, sym, ◌∙◌, take, drop, add-one}
use Rattle.std.proofs.Math.Seq.{drop-cons, take-suc}
use Rattle.std.proofs.lemmas.Option.{slice_get_within, get_or_from_slice_get}
use Rattle.std.specs.List.{slice_get}
use Rattle.ordered_table.specs.Table.{entry_before, there}

module _ {X : Type 0} where
  take_further : (xs : List X) (i : ℕ) (x : X) → slice_get xs i ≡ Some x → take (i + 1) xs ≡ take i xs ++ x ∷ []
  take_further xs i x h =
      let lt = slice_get_within xs i x h in
      ap (λ j. take j xs) (add-one i) ∙ take-suc xs i x lt ∙ ap (λ y. take i xs ++ y ∷ []) (get_or_from_slice_get xs i x x h)

  drop_further : (xs : List X) (i : ℕ) (x : X) → slice_get xs i ≡ Some x → drop i xs ≡ x ∷ drop (i + 1) xs
  drop_further xs i x h =
      let lt = slice_get_within xs i x h in
      drop-cons xs i x lt ∙ ap (λ y. y ∷ drop (suc i) xs) (get_or_from_slice_get xs i x x h) ∙ ap (λ j. x ∷ drop j xs) (sym (add-one i))

module _ {K V : Type 0} where
  there_one : (ps : List (K × Option V)) (p : K × Option V) → there (ps ++ p ∷ []) ≡ there ps ++ entry_before p.0 p.1 []
  there_one [] p = refl
  there_one (q ∷ ps) p = ap (entry_before q.0 q.1) (there_one ps p) ∙ before q.0 q.1 (there ps) (entry_before p.0 p.1 [])
    where
      before : (k : K) (o : Option V) (es fs : List (K × V)) → entry_before k o (es ++ fs) ≡ entry_before k o es ++ fs
      before k None es fs = refl
      before k (Some v) es fs = refl

  append_nil : (es : List (K × V)) → es ++ [] ≡ es
  append_nil [] = refl
  append_nil (e ∷ es) = ap (λ l. e ∷ l) (append_nil es)

  module _ (ps : List (K × Option V)) (i : ℕ) (k : K) where
    pub walked_entry : (v : V) → slice_get ps i ≡ Some (k, Some v) → there (take (i + 1) ps) ≡ there (take i ps) ++ (k, v) ∷ []
    walked_entry v h = ap there (take_further ps i _ h) ∙ there_one (take i ps) (k, Some v)

    pub walked_gap : slice_get ps i ≡ Some (k, None) → there (take (i + 1) ps) ≡ there (take i ps)
    walked_gap h = ap there (take_further ps i _ h) ∙ there_one (take i ps) (k, None) ∙ append_nil (there (take i ps))

    pub ahead_entry : (v : V) → slice_get ps i ≡ Some (k, Some v) → there (drop i ps) ≡ (k, v) ∷ there (drop (i + 1) ps)
    ahead_entry v h = ap there (drop_further ps i _ h)

    pub ahead_gap : slice_get ps i ≡ Some (k, None) → there (drop i ps) ≡ there (drop (i + 1) ps)
    ahead_gap h = ap there (drop_further ps i _ h)
