-- A list of elements with a key and a value each, read as entries.
use Rattle.std.proofs.Common.{◌≡◌, ℕ, ◌<◌, List, length, map, position, remove, Option, Some, None, ap, sym, ◌∙◌, arith, get_or}
use Rattle.std.proofs.Math.ListN.{set, get_or-map}
use Rattle.std.proofs.Math.Seq.{map-set}
use Rattle.std.specs.Str.{bytes_eq}
use Rattle.std.specs.List.{position_or_len}
use Rattle.comm_core.specs.Machine.{at, with_at, without}
use Rattle.indexmap.proofs.SetLemmas.{map-remove}
use Rattle.comm_core.proofs.Entries.{position-is, lookup-place, set-place, remove-place, none-at, lookup-no_place, remove-absent}

module _ {N X : Type 0} (key : N → List ℕ) (val : N → X) (ns : List N) (name : List ℕ) where
  abbrev pub read : N → List ℕ × X
  read n = (key n, val n)

  module _ (i : ℕ) (n : N) (there : position (λ (e : List ℕ × X). bytes_eq name e.0) (map read ns) ≡ Some i) (is : n ≡ get_or ns i n) where
    abbrev placed : (position_or_len (λ (e : List ℕ × X). bytes_eq name e.0) (map read ns) ≡ i) × (i < length (map read ns))
    placed = position-is _ (map read ns) i there

    at-read : get_or (map read ns) i (read n) ≡ read n
    at-read = get_or-map read ns i n ∙ ap read (sym is)

    pub found : at (map read ns) name ≡ Some (val n)
    found =
        let lt : position_or_len (λ (e : List ℕ × X). bytes_eq name e.0) (map read ns) < length (map read ns) = omega (arith, placed.0, placed.1) in
        lookup-place (bytes_eq name) (map read ns) (read n) lt
        ∙ ap (λ j. Some (get_or (map read ns) j (read n)).1) placed.0 ∙ ap (λ (e : List ℕ × X). Some e.1) at-read

    pub found-is : (x : X) → at (map read ns) name ≡ Some x → val n ≡ x
    found-is x h = let e = found in cc

    pub wrote : (w : N) → key w ≡ key n → map read (set ns i w) ≡ with_at (map read ns) name (val w)
    wrote w same =
        map-set read ns i w
        ∙ ap (λ k. set (map read ns) i (k, val w)) (same ∙ ap (λ (e : List ℕ × X). e.0) (sym at-read))
        ∙ ap (λ j. set (map read ns) j ((get_or (map read ns) j (read n)).0, val w)) (sym placed.0)
        ∙ set-place (bytes_eq name) (map read ns) (read n) (val w)

    pub cut : map read (remove ns i) ≡ without (map read ns) name
    cut = map-remove read ns i ∙ ap (remove (map read ns)) (sym placed.0) ∙ remove-place (bytes_eq name) (map read ns)

  pub missing : (x : X) → position (λ (e : List ℕ × X). bytes_eq name e.0) (map read ns) ≡ None → at (map read ns) name ≡ Some x → ⊥
  missing x h e = none-at (bytes_eq name) (map read ns) x h e

-- The same where the entries es are what is read of the elements.
module _ {N X : Type 0} (key : N → List ℕ) (val : N → X) (ns : List N) (es : List (List ℕ × X)) (name : List ℕ) (view : map (λ n. (key n, val n)) ns ≡ es) where
  module _ (r : Option ℕ) (i : ℕ) (n : N) (place : r ≡ position (λ (e : List ℕ × X). bytes_eq name e.0) es) (there : r ≡ Some i) (is : n ≡ get_or ns i n) where
    abbrev here : position (λ (e : List ℕ × X). bytes_eq name e.0) (map (λ n. (key n, val n)) ns) ≡ Some i
    here = rw (← view) at (sym place ∙ there)

    -- What the element has is what stands under the name.
    pub held : at es name ≡ Some (val n)
    held = ap (λ l. at l name) (sym view) ∙ found key val ns name i n here is

    pub held-is : (x : X) → at es name ≡ Some x → val n ≡ x
    held-is x h = let e = held in cc

    -- A write of the value of the element is one under the name.
    pub written : (w : N) → key w ≡ key n → map (λ n. (key n, val n)) (set ns i w) ≡ with_at es name (val w)
    written w same = wrote key val ns name i n here is w same ∙ ap (λ l. with_at l name (val w)) view

    -- An element that is taken out of the list is taken out by its name.
    pub removed : map (λ n. (key n, val n)) (remove ns i) ≡ without es name
    removed = cut key val ns name i n here is ∙ ap (λ l. without l name) view

  pub not_there : (r : Option ℕ) (x : X) → r ≡ position (λ (e : List ℕ × X). bytes_eq name e.0) es → r ≡ None → at es name ≡ Some x → ⊥
  not_there r x place none e = missing key val ns name x (rw (← view) at (sym place ∙ none)) (ap (λ l. at l name) view ∙ e)

  pub absent : (r : Option ℕ) → r ≡ position (λ (e : List ℕ × X). bytes_eq name e.0) es → r ≡ None → (at es name ≡ None) × (without es name ≡ es)
  absent r place none =
      let h : at es name ≡ None = lookup-no_place (bytes_eq name) es (sym place ∙ none) in
      (h, remove-absent (bytes_eq name) es h)
