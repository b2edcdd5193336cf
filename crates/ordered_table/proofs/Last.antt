-- A gap whose place becomes the last.
use Rattle.std.proofs.Common.{◌≡◌, ℕ, suc, ◌+◌, Bool, true, false, cond, if◌then◌else◌, not, List, [], ◌∷◌, ◌++◌, length, insert, remove, slice_get, Option, Some, None, refl, ap, subst, ◌∙◌, arith}
use Rattle.std.specs.List.{position_or_len}
use Rattle.std.specs.Map.{keys_of, lookup, remove_entry}
use Rattle.std.specs.Option.{option_map_or}
use Rattle.std.proofs.lemmas.List.Edits.{insert_end}
use Rattle.indexmap.specs.IndexMap.{insert_entry, move_index}
use Rattle.ordered_table.specs.Table.{there}
use Rattle.ordered_table.proofs.Gaps.{gap_removed, there_push}

module _ {K V : Type 0} (eq : K → K → Bool) (k : K) (v : V) where
  -- at this place of xs stands a key equal to k with the value, and the others are rest
  record Stands (xs rest : List (K × Option V)) (i : ℕ) : Type 0 where
    key : K
    equal : eq k key ≡ true
    here : slice_get xs i ≡ Some (key, Some v)
    others : remove xs i ≡ rest
    count : length xs ≡ length rest + 1

  before : (p : K × Option V) (xs rest : List (K × Option V)) (i : ℕ) → Stands xs rest i → Stands (p ∷ xs) (p ∷ rest) (1 + i)
  before p xs rest i s =
      let n = s.count in
      let after : suc i ≡ 1 + i = omega arith in
      subst (λ n. Stands (p ∷ xs) (p ∷ rest) n) after
      (record { key = s.key; equal = s.equal; here = s.here; others = ap (λ ps. p ∷ ps) s.others; count = omega (arith, n) })

  stands : (ps : List (K × Option V)) (o : Option V) → lookup (eq k) ps ≡ Some o
      → Stands (insert_entry eq ps k (Some v)) (remove_entry (eq k) ps) (position_or_len (eq k) (keys_of ps))
  stands [] o is = cc
  stands (p ∷ ps) o is =
      (elim (eq k p.0) as (λ b. eq k p.0 ≡ b → cond b (Some p.1) (lookup (eq k) ps) ≡ Some o
      → Stands (if b then (p.0, Some v) ∷ ps else p ∷ insert_entry eq ps k (Some v)) (cond b ps (p ∷ remove_entry (eq k) ps))
      (cond (not b) (1 + position_or_len (eq k) (keys_of ps)) 0)) [
        | true ↦ λ hit _. record { key = p.0; equal = hit; here = refl; others = refl; count = omega arith }
        | false ↦ λ miss found. before p _ _ _ (stands ps o found)
      ]) refl is

  last_of : (xs rest : List (K × Option V)) (i n : ℕ) (s : Stands xs rest i) → n + 1 ≡ length xs → move_index xs i n ≡ rest ++ (s.key, Some v) ∷ []
  last_of xs rest i n s last =
      let count = s.count in
      let end : n ≡ length rest = omega (arith, count, last) in
      ap (λ o. option_map_or (λ x. insert (remove xs i) n x) o xs) s.here
      ∙ ap (λ r. insert r n (s.key, Some v)) s.others
      ∙ ap (λ m. insert rest m (s.key, Some v)) end
      ∙ insert_end rest (s.key, Some v)

  -- the entries once the place of the gap, which has the value then, is the last
  pub moved : (ps put new : List (K × Option V)) (o : Option V) (i n : ℕ) → lookup (eq k) ps ≡ Some o → lookup (eq k) (there ps) ≡ None
      → put ≡ insert_entry eq ps k (Some v) → i ≡ position_or_len (eq k) (keys_of ps) → n + 1 ≡ length put → new ≡ move_index put i n
      → (key : K) × (eq k key ≡ true) × (there new ≡ there ps ++ (key, v) ∷ [])
  moved ps put new o i n found gap is place last after =
      let s = stands ps o found in
      let here : move_index put i n ≡ remove_entry (eq k) ps ++ (s.key, Some v) ∷ [] =
      ap (λ xs. move_index xs i n) is ∙ ap (λ j. move_index (insert_entry eq ps k (Some v)) j n) place
      ∙ last_of _ _ _ n s (last ∙ ap length is) in (
        s.key,
        s.equal,
        ap there (after ∙ here) ∙ there_push (remove_entry (eq k) ps) s.key v ∙ ap (λ es. es ++ (s.key, v) ∷ []) (gap_removed (eq k) ps gap),
      )
