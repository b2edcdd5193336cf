-- Entries and the places that they are kept at, as places are emptied, changed and swept.
use Rattle.std.proofs.Common.{◌≡◌, ℕ, zero, suc, ◌+◌, ◌-◌, ◌*◌, ◌≤◌, Bool, true, false, cond, filter, List, [], ◌∷◌, ◌++◌, length, slice_get, Option, Some, None, is_some, refl, ap, sym, subst, ◌∙◌, arith, true≢false}
use Rattle.std.specs.List.{AllByRecursion, IsDistinct}
use Rattle.std.specs.Option.{option_flatten, option_map_or}
use Rattle.std.specs.Map.{keys_of, values_of, lookup, remove_entry, set_value, IsKeyTest}
use Rattle.indexmap.specs.IndexMap.{set_value_at}
use Rattle.std.specs.Map.Calls.{RetainsPairs}
use Rattle.ordered_table.specs.Table.{IsKept, HasFewGaps, entry_before, there, at_place}

-- the keys after one that passes do not
others_fail : {K : Type 0} (eq : K → K → Bool) (test : K → Bool) → IsKeyTest eq test → (k : K) → test k ≡ true
    → (ks : List K) → AllByRecursion (λ y. eq k y ≡ false) ks → AllByRecursion (λ y. test y ≡ false) ks
others_fail eq test one k hit [] h = tt
others_fail eq test one k hit (y ∷ ks) h = (one k y hit ∙ h.0, others_fail eq test one k hit ks h.1)

module _ {K V : Type 0} where
  pub changed_length : (test : K → Bool) (es : List (K × V)) (w : V) → length (set_value test es w) ≡ length es
  changed_length test [] w = refl
  changed_length test (e ∷ es) w =
      let more = changed_length test es w in
      elim (test e.0) as (λ b. length (cond b ((e.0, w) ∷ es) (e ∷ set_value test es w)) ≡ length (e ∷ es)) [
        | true ↦ refl
        | false ↦ omega arith
      ]

module _ {K V : Type 0} where
  -- no key passes
  abbrev pub Absent : (K → Bool) → List (K × Option V) → Type 0
  Absent test ps = AllByRecursion (λ k. test k ≡ false) (keys_of ps)

  module _ (test : K → Bool) where
    lookup_kept : (k : K) (o : Option V) (es : List (K × V)) → test k ≡ false → lookup test (entry_before k o es) ≡ lookup test es
    lookup_kept k None es miss = refl
    lookup_kept k (Some v) es miss = ap (λ b. cond b (Some v) (lookup test es)) miss

    remove_kept : (k : K) (o : Option V) (es : List (K × V)) → test k ≡ false → remove_entry test (entry_before k o es) ≡ entry_before k o (remove_entry test es)
    remove_kept k None es miss = refl
    remove_kept k (Some v) es miss = ap (λ b. cond b es ((k, v) ∷ remove_entry test es)) miss

    set_kept : (k : K) (o : Option V) (es : List (K × V)) (w : V) → test k ≡ false → set_value test (entry_before k o es) w ≡ entry_before k o (set_value test es w)
    set_kept k None es w miss = refl
    set_kept k (Some v) es w miss = ap (λ b. cond b ((k, w) ∷ es) ((k, v) ∷ set_value test es w)) miss

    lookup_absent : (ps : List (K × Option V)) → Absent test ps → lookup test (there ps) ≡ None
    lookup_absent [] h = refl
    lookup_absent (p ∷ ps) h = lookup_kept p.0 p.1 (there ps) h.0 ∙ lookup_absent ps h.1

    remove_absent : (ps : List (K × Option V)) → Absent test ps → remove_entry test (there ps) ≡ there ps
    remove_absent [] h = refl
    remove_absent (p ∷ ps) h = remove_kept p.0 p.1 (there ps) h.0 ∙ ap (entry_before p.0 p.1) (remove_absent ps h.1)

  module _ (eq : K → K → Bool) (test : K → Bool) (one : IsKeyTest eq test) where
    rest_absent : (p : K × Option V) (ps : List (K × Option V)) → IsDistinct eq (keys_of (p ∷ ps)) → test p.0 ≡ true → Absent test ps
    unfolding IsDistinct
    rest_absent p ps d hit = others_fail eq test one p.0 hit (keys_of ps) d.0

    rest_distinct : (p : K × Option V) (ps : List (K × Option V)) → IsDistinct eq (keys_of (p ∷ ps)) → IsDistinct eq (keys_of ps)
    unfolding IsDistinct
    rest_distinct p ps d = d.1

    -- an entry is found at its place
    pub lookup_there : (ps : List (K × Option V)) → IsDistinct eq (keys_of ps) → lookup test (there ps) ≡ option_flatten (lookup test ps)
    lookup_there [] d = refl
    lookup_there (p ∷ ps) d =
        let more = lookup_there ps (rest_distinct p ps d) in
        (elim (test p.0) as (λ b. test p.0 ≡ b → lookup test (entry_before p.0 p.1 (there ps)) ≡ option_flatten (cond b (Some p.1) (lookup test ps))) [
          | true ↦ λ hit.
              (elim p.1 as (λ o. lookup test (entry_before p.0 o (there ps)) ≡ o) [
                | None ↦ lookup_absent test ps (rest_absent p ps d hit)
                | Some v ↦ ap (λ b. cond b (Some v) (lookup test (there ps))) hit
              ])
          | false ↦ λ miss. lookup_kept test p.0 p.1 (there ps) miss ∙ more
        ]) refl

    keys_set_at : (ps : List (K × Option V)) (i : ℕ) (w : Option V) → keys_of (set_value_at ps i w) ≡ keys_of ps
    keys_set_at [] i w = refl
    keys_set_at (p ∷ ps) zero w = refl
    keys_set_at (p ∷ ps) (suc i) w = ap (λ ks. p.0 ∷ ks) (keys_set_at ps i w)

    at_passes : (P : K → Type 0) (ps : List (K × Option V)) (i : ℕ) (k : K) (o : Option V) → AllByRecursion P (keys_of ps) → slice_get ps i ≡ Some (k, o) → P k
    at_passes P [] i k o all at = cc
    at_passes P (p ∷ ps) zero k o all at = let same : p.0 ≡ k = cc in subst P same all.0
    at_passes P (p ∷ ps) (suc i) k o all at = at_passes P ps i k o all.1 at

    -- a place whose key passes is the one that is found
    pub found_at : (ps : List (K × Option V)) (i : ℕ) (k : K) (o w : Option V) → IsDistinct eq (keys_of ps) → slice_get ps i ≡ Some (k, o) → test k ≡ true
        → (set_value_at ps i w ≡ set_value test ps w) × (lookup test ps ≡ slice_get (values_of ps) i) × IsDistinct eq (keys_of (set_value_at ps i w))
    found_at [] i k o w d at hit = cc
    found_at (p ∷ ps) zero k o w d at hit =
        let same : p.0 ≡ k = cc in
        let here : test p.0 ≡ true = ap test same ∙ hit in (
          ap (λ b. cond b ((p.0, w) ∷ ps) (p ∷ set_value test ps w)) (sym here),
          ap (λ b. cond b (Some p.1) (lookup test ps)) here,
          d,
        )
    found_at (p ∷ ps) (suc i) k o w d at hit =
        let more = found_at ps i k o w (rest_distinct p ps d) at hit in
        (elim (test p.0) as (λ b. test p.0 ≡ b → (p ∷ set_value_at ps i w ≡ cond b ((p.0, w) ∷ ps) (p ∷ set_value test ps w))
        × (cond b (Some p.1) (lookup test ps) ≡ slice_get (values_of ps) i) × IsDistinct eq (keys_of (p ∷ set_value_at ps i w))) [
          | true ↦ λ here. absurd (true≢false (sym hit ∙ at_passes (λ k. test k ≡ false) ps i k o (rest_absent p ps d here) at))
          | false ↦ λ miss. (ap (λ es. p ∷ es) more.0, more.1, subst (λ ks. IsDistinct eq (p.0 ∷ ks)) (sym (keys_set_at ps i w)) d)
        ]) refl

    -- an emptied place takes its entry out
    pub emptied_there : (ps : List (K × Option V)) → IsDistinct eq (keys_of ps) → there (set_value test ps None) ≡ remove_entry test (there ps)
    emptied_there [] d = refl
    emptied_there (p ∷ ps) d =
        let more = emptied_there ps (rest_distinct p ps d) in
        (elim (test p.0) as (λ b. test p.0 ≡ b → there (cond b ((p.0, None) ∷ ps) (p ∷ set_value test ps None)) ≡ remove_entry test (entry_before p.0 p.1 (there ps))) [
          | true ↦ λ hit.
              (elim p.1 as (λ o. there ps ≡ remove_entry test (entry_before p.0 o (there ps))) [
                | None ↦ sym (remove_absent test ps (rest_absent p ps d hit))
                | Some v ↦ sym (ap (λ b. cond b (there ps) ((p.0, v) ∷ remove_entry test (there ps))) hit)
              ])
          | false ↦ λ miss. ap (entry_before p.0 p.1) more ∙ sym (remove_kept test p.0 p.1 (there ps) miss)
        ]) refl

    -- a place that is no gap takes another value
    pub changed_there : (ps : List (K × Option V)) (v w : V) → IsDistinct eq (keys_of ps) → lookup test ps ≡ Some (Some v)
        → there (set_value test ps (Some w)) ≡ set_value test (there ps) w
    changed_there [] v w d found = cc
    changed_there (p ∷ ps) v w d found =
        let more = changed_there ps v w (rest_distinct p ps d) in
        (elim (test p.0) as (λ b. test p.0 ≡ b → cond b (Some p.1) (lookup test ps) ≡ Some (Some v)
        → there (cond b ((p.0, Some w) ∷ ps) (p ∷ set_value test ps (Some w))) ≡ set_value test (entry_before p.0 p.1 (there ps)) w) [
          | true ↦ λ hit is.
              let full : p.1 ≡ Some v = cc in
              ap (λ b. cond b ((p.0, w) ∷ there ps) ((p.0, v) ∷ set_value test (there ps) w)) (sym hit)
              ∙ ap (λ o. set_value test (entry_before p.0 o (there ps)) w) (sym full)
          | false ↦ λ miss is. ap (entry_before p.0 p.1) (more is) ∙ sym (set_kept test p.0 p.1 (there ps) w miss)
        ]) refl found

  -- a gap goes without a trace
  pub gap_removed : (test : K → Bool) (ps : List (K × Option V)) → lookup test (there ps) ≡ None → there (remove_entry test ps) ≡ there ps
  gap_removed test [] none = refl
  gap_removed test (p ∷ ps) none =
      let more = gap_removed test ps in
      (elim (test p.0) as (λ b. test p.0 ≡ b → there (cond b ps (p ∷ remove_entry test ps)) ≡ entry_before p.0 p.1 (there ps)) [
        | true ↦ λ hit.
            (elim p.1 as (λ o. lookup test (entry_before p.0 o (there ps)) ≡ None → there ps ≡ entry_before p.0 o (there ps)) [
              | None ↦ λ _. refl
              | Some v ↦ λ none.
                  let found : lookup test ((p.0, v) ∷ there ps) ≡ Some v = ap (λ b. cond b (Some v) (lookup test (there ps))) hit in
                  let miss : Some v ≡ None = sym found ∙ none in cc
            ]) none
        | false ↦ λ miss. ap (entry_before p.0 p.1) (more (sym (lookup_kept test p.0 p.1 (there ps) miss) ∙ none))
      ]) refl

  pub remove_none : (test : K → Bool) (es : List (K × V)) → lookup test es ≡ None → remove_entry test es ≡ es
  remove_none test [] h = refl
  remove_none test (e ∷ es) h =
      let more = remove_none test es in
      (elim (test e.0) as (λ b. cond b (Some e.1) (lookup test es) ≡ None → cond b es (e ∷ remove_entry test es) ≡ e ∷ es) [
        | true ↦ λ l. cc
        | false ↦ λ l. ap (λ r. e ∷ r) (more l)
      ]) h

  pub set_none : (test : K → Bool) (ps : List (K × Option V)) (o : Option V) → lookup test ps ≡ None → set_value test ps o ≡ ps
  set_none test [] o h = refl
  set_none test (p ∷ ps) o h =
      let more = set_none test ps o in
      (elim (test p.0) as (λ b. cond b (Some p.1) (lookup test ps) ≡ None → cond b ((p.0, o) ∷ ps) (p ∷ set_value test ps o) ≡ p ∷ ps) [
        | true ↦ λ l. cc
        | false ↦ λ l. ap (λ r. p ∷ r) (more l)
      ]) h

  pub there_push : (ps : List (K × Option V)) (k : K) (v : V) → there (ps ++ (k, Some v) ∷ []) ≡ there ps ++ (k, v) ∷ []
  there_push [] k v = refl
  there_push (p ∷ ps) k v = ap (entry_before p.0 p.1) (there_push ps k v) ∙ before p.0 p.1 (there ps) ((k, v) ∷ [])
    where
      before : (k : K) (o : Option V) (es fs : List (K × V)) → entry_before k o (es ++ fs) ≡ entry_before k o es ++ fs
      before k None es fs = refl
      before k (Some v) es fs = refl

  length_kept : (k : K) (o : Option V) (es : List (K × V)) (n : ℕ) → length es ≤ n → length (entry_before k o es) ≤ n + 1
  length_kept k None es n h = omega arith
  length_kept k (Some v) es n h = omega arith

  -- no more entries than places
  pub there_within : (ps : List (K × Option V)) → length (there ps) ≤ length ps
  there_within [] = omega arith
  there_within (p ∷ ps) = let more = length_kept p.0 p.1 (there ps) (length ps) (there_within ps) in omega arith

  -- what is taken out is one less
  pub removed_length : (test : K → Bool) (es : List (K × V)) (v : V) → lookup test es ≡ Some v → length (remove_entry test es) + 1 ≡ length es
  removed_length test [] v found = cc
  removed_length test (e ∷ es) v found =
      let more = removed_length test es v in
      (elim (test e.0) as (λ b. cond b (Some e.1) (lookup test es) ≡ Some v → length (cond b es (e ∷ remove_entry test es)) + 1 ≡ length (e ∷ es)) [
        | true ↦ λ _. omega arith
        | false ↦ λ is. let m = more is in omega arith
      ]) found

  -- what a sweep leaves
  pub swept : (ps : List (K × Option V)) → there (filter (λ p. is_some p.1) ps) ≡ there ps
  swept [] = refl
  swept (p ∷ ps) =
      elim p.1 as (λ o. there (cond (is_some o) ((p.0, o) ∷ filter (λ q. is_some q.1) ps) (filter (λ q. is_some q.1) ps)) ≡ entry_before p.0 o (there ps)) [
        | None ↦ swept ps
        | Some v ↦ ap (λ es. (p.0, v) ∷ es) (swept ps)
      ]

  pub swept_full : (ps : List (K × Option V)) → length (there ps) ≡ length (filter (λ p. is_some p.1) ps)
  swept_full [] = refl
  swept_full (p ∷ ps) =
      let more = swept_full ps in
      elim p.1 as (λ o. length (entry_before p.0 o (there ps)) ≡ length (cond (is_some o) ((p.0, o) ∷ filter (λ q. is_some q.1) ps) (filter (λ q. is_some q.1) ps))) [
        | None ↦ more
        | Some v ↦ omega (arith, more)
      ]

  -- what a choice leaves
  pub chosen : (test : K × V → Bool) (ps : List (K × Option V)) → there (filter (at_place test) ps) ≡ filter test (there ps)
  chosen test [] = refl
  chosen test (p ∷ ps) =
      let more = chosen test ps in
      elim p.1 as (λ o. there (cond (option_map_or (λ v. test (p.0, v)) o false) ((p.0, o) ∷ filter (at_place test) ps) (filter (at_place test) ps)) ≡ filter test (entry_before p.0 o (there ps))) [
        | None ↦ more
        | Some v ↦
            elim (test (p.0, v)) as (λ b. there (cond b ((p.0, Some v) ∷ filter (at_place test) ps) (filter (at_place test) ps)) ≡ cond b ((p.0, v) ∷ filter test (there ps)) (filter test (there ps))) [
              | true ↦ ap (λ es. (p.0, v) ∷ es) more
              | false ↦ more
            ]
      ]

  -- and leaves no gap
  pub chosen_full : (test : K × V → Bool) (ps : List (K × Option V)) → length (there (filter (at_place test) ps)) ≡ length (filter (at_place test) ps)
  chosen_full test [] = refl
  chosen_full test (p ∷ ps) =
      let more = chosen_full test ps in
      elim p.1 as (λ o. length (there (cond (option_map_or (λ v. test (p.0, v)) o false) ((p.0, o) ∷ filter (at_place test) ps) (filter (at_place test) ps)))
      ≡ length (cond (option_map_or (λ v. test (p.0, v)) o false) ((p.0, o) ∷ filter (at_place test) ps) (filter (at_place test) ps))) [
        | None ↦ more
        | Some v ↦
            elim (test (p.0, v)) as (λ b. length (there (cond b ((p.0, Some v) ∷ filter (at_place test) ps) (filter (at_place test) ps)))
            ≡ length (cond b ((p.0, Some v) ∷ filter (at_place test) ps) (filter (at_place test) ps))) [
              | true ↦ omega (arith, more)
              | false ↦ more
            ]
      ]

  -- what a walk that keeps no gap leaves has none
  pub full : {F : Type 0} (T : F → K → Option V → Bool → Option V → F → Type 0)
      → ((f : F) (k : K) (o : Option V) (b : Bool) (p : Option V) (g : F) → T f k o b p g → (b ≡ true → is_some o ≡ true) × (p ≡ o))
      → (f : F) (ps left : List (K × Option V)) → RetainsPairs T f ps left → length (there left) ≡ length left
  full T says f [] left h = rw h refl
  full T says f (p ∷ ps) left h =
      let s = says f p.0 p.1 h.0 h.1 h.2 h.4 in
      let more : length (there h.3) ≡ length h.3 = full T says h.2 ps h.3 h.5 in
      let one : (b : Bool) (o : Option V) → (b ≡ true → is_some o ≡ true) → length (there (cond b ((p.0, o) ∷ h.3) h.3)) ≡ length (cond b ((p.0, o) ∷ h.3) h.3) =
      λ b o some. (elim b as (λ b. (b ≡ true → is_some o ≡ true) → length (there (cond b ((p.0, o) ∷ h.3) h.3)) ≡ length (cond b ((p.0, o) ∷ h.3) h.3)) [
        | true ↦ λ some. (elim o as (λ o. is_some o ≡ true → length (entry_before p.0 o (there h.3)) ≡ length ((p.0, o) ∷ h.3)) [
          | None ↦ λ e. absurd (true≢false (sym e))
          | Some v ↦ λ e. omega (arith, more)
        ]) (some refl)
        | false ↦ λ some. more
      ]) some in
      rw h.6 (one h.0 h.1 (λ e. rw s.1 (s.0 e)))

  -- ---- at a table

  module _ (eq : K → K → Bool) (test : K → Bool) (one : IsKeyTest eq test) where
    module _ (ps : List (K × Option V)) (live : ℕ) (is : IsKept eq live ps) where
      -- a key's value is what stands at its place
      pub value_of : (o : Option (Option V)) → o ≡ lookup test ps → option_flatten o ≡ lookup test (there ps)
      value_of o found = ap option_flatten found ∙ sym (lookup_there eq test one ps is.unique)

      -- as many places, and as many entries
      few_still : (new : List (K × Option V)) (o : Option V) → new ≡ set_value test ps o → length (there new) ≡ length (there ps) → HasFewGaps new
      few_still new o same as_many =
          let places : length new ≡ length ps = ap length same ∙ changed_length test ps o in
          let before : length ps ≤ 2 * length (there ps) + 1 = is.few in
          omega (arith, places, as_many, before)

      module _ (new : List (K × Option V)) (unique : IsDistinct eq (keys_of new)) where
        pub gap_kept : new ≡ set_value test ps None → option_flatten (lookup test ps) ≡ None → IsKept eq live new
        gap_kept same none =
            let gone : there new ≡ remove_entry test (there ps) = ap there same ∙ emptied_there eq test one ps is.unique in
            let nothing : lookup test (there ps) ≡ None = lookup_there eq test one ps is.unique ∙ none in
            let kept : there new ≡ there ps = gone ∙ remove_none test (there ps) nothing in
            record { count = is.count ∙ ap length (sym kept); few = few_still new None same (ap length kept); unique = unique }

        -- an entry that is taken out is one less
        pub taken_count : (v : V) → new ≡ set_value test ps None → option_flatten (lookup test ps) ≡ Some v
            → (1 ≤ live) × (live - 1 ≡ length (there new))
        taken_count v same some =
            let gone : there new ≡ remove_entry test (there ps) = ap there same ∙ emptied_there eq test one ps is.unique in
            let less = removed_length test (there ps) v (lookup_there eq test one ps is.unique ∙ some) in
            let count = is.count in
            let l : length (there new) + 1 ≡ live = ap (λ es. length es + 1) gone ∙ less ∙ sym count in
            (omega (arith, l), omega (arith, l))

        pub taken_kept : (left : List (K × Option V)) (v : V) → new ≡ set_value test ps None → there left ≡ there new → HasFewGaps left
            → IsDistinct eq (keys_of left) → option_flatten (lookup test ps) ≡ Some v → IsKept eq (live - 1) left
        taken_kept left v same same_there few left_unique some =
            record { count = (taken_count v same some).1 ∙ sym (ap length same_there); few = few; unique = left_unique }

        pub changed_kept : (v w : V) → new ≡ set_value test ps (Some w) → lookup test ps ≡ Some (Some v) → IsKept eq live new × (there new ≡ set_value test (there ps) w)
        changed_kept v w same found =
            let now : there new ≡ set_value test (there ps) w = ap there same ∙ changed_there eq test one ps v w is.unique found in
            let as_many : length (there new) ≡ length (there ps) = ap length now ∙ changed_length test (there ps) w in
            (record { count = is.count ∙ sym as_many; few = few_still new (Some w) same as_many; unique = unique }, now)

      -- a gap that is emptied shows nothing
      pub gap_at : (new : List (K × Option V)) → new ≡ set_value test ps None → option_flatten (lookup test ps) ≡ None → there new ≡ there ps
      gap_at new same none =
          ap there same ∙ emptied_there eq test one ps is.unique ∙ remove_none test (there ps) (lookup_there eq test one ps is.unique ∙ none)

      pub emptied_at : (new : List (K × Option V)) → new ≡ set_value test ps None → there new ≡ remove_entry test (there ps)
      emptied_at new same = ap there same ∙ emptied_there eq test one ps is.unique
