-- Where an id stands among comms in chunks.
use Rattle.std.proofs.Common.{◌≡◌, ℕ, zero, suc, ◌<◌, ◌≤◌, ◌+◌, ◌-◌, true, List, [], ◌∷◌, ◌++◌, length, get_or, take, drop, set, Global, Vec, Ordering, Less, Equal, Greater, refl, sym, ap, ◌∙◌, arith, subst, append_assoc, take-append-drop, length-append, length-drop, length-take-le}
use Rattle.std.proofs.lemmas.List.{take-set, drop-set}
use Rattle.std.specs.Prelude.{Result, Ok, Err, IfOk, IfErr}
use Rattle.std.specs.Arc.{arc_value}
use Rattle.std.specs.Ordering.{is_eq, is_gt, is_lt, match_ordering}
use Rattle.comm_core.specs.Machine.{Name, at, without}
use Rattle.comm_core.specs.Tables.{Opens}
use Rattle.comm_core.specs.declared.comm.Comm.{Comm}
use Rattle.comm_versions.specs.declared.position.Position.{Position}
use Rattle.comm_versions.specs.Chunks.{CommChunk, comms_in, AllIdsBelow, IsBelowFirst, StartsWithId, IsInOrder, IsPosition, StandsAt, id_cmp, upsert}
use Rattle.comm_versions.proofs.Flat.{first_is, flat_cut, set_flat}
use Rattle.comm_versions.proofs.Ids.{above_back, absent_at, absent_of, below_at, below_found, below_front, below_part, below_right, found_at, ordered_chunk}
use Rattle.comm_versions.proofs.Around.{Stands, absent_put, around, found_out, found_put, out_set, put_set}

-- ---- what a position tells

pub position_within : (ps : List CommChunk) (k : Name) (s : Position) → IsPosition ps k s → s.chunk < length ps
position_within ps k s h = omega (arith, ap length h.here, length-drop s.chunk ps)

pub position_stands : (ps : List CommChunk) (k : Name) (s : Position) (h : IsPosition ps k s) → Stands ps s.chunk (arc_value h.one).items k
position_stands ps k s h = record { around_it = flat_cut ps s.chunk ∙ ap (λ l. comms_in (take s.chunk ps) ++ comms_in l) h.here; below = h.below; above = h.above }

-- the chunk that is looked up there
pub position_one : (ps : List CommChunk) (k : Name) (s : Position) (h : IsPosition ps k s) (p : CommChunk) → p ≡ get_or ps s.chunk p → p ≡ h.one
position_one ps k s h p is = ap (λ l. get_or l 0 p) (sym (first_is ps s.chunk p (position_within ps k s h) is) ∙ h.here)

pub position_ordered : (ps : List CommChunk) (k : Name) (s : Position) (h : IsPosition ps k s) → IsInOrder (comms_in ps) → IsInOrder (arc_value h.one).items
position_ordered ps k s h o = ordered_chunk _ _ _ _ (position_stands ps k s h).around_it o

-- where a search found it
pub searched_there : (k : Name) (es : Opens) (at : Result ℕ ℕ) → IfOk at (λ i. (i < length es) × AllIdsBelow k (take i es) × StartsWithId k (drop i es)) → IfErr at (λ i. (i ≤ length es) × AllIdsBelow k (take i es) × IsBelowFirst k (drop i es)) → StandsAt k es at
searched_there k es (Ok i) f a = f
searched_there k es (Err i) f a = a

-- ---- a chunk that is changed there

set_cut : (es : Opens) (i : ℕ) (c : Name × Comm) → i < length es → set es i c ≡ take i es ++ c ∷ drop (i + 1) es
set_cut es i c h = sym (take-append-drop i (set es i c)) ∙ ap (λ l. l ++ drop i (set es i c)) (take-set es i c) ∙ ap (λ l. take i es ++ l) (drop-set es i c h)

-- in place of the comm of its id
pub set_there : (es : Opens) (at : Result ℕ ℕ) (i : ℕ) (c : Name × Comm) → StandsAt c.0 es at → at ≡ Ok i → set es i c ≡ upsert es c
set_there es at i c h is =
    let f : StandsAt c.0 es (Ok i) = subst (StandsAt c.0 es) is h in found_put es i c.0 c (set es i c) refl f (set_cut es i c f.0)

-- where the id would stand
pub insert_there : (es new : Opens) (at : Result ℕ ℕ) (i : ℕ) (c : Name × Comm) → StandsAt c.0 es at → at ≡ Err i → new ≡ take i es ++ c ∷ drop i es → new ≡ upsert es c
insert_there es new at i c h is made = absent_put es i c.0 c new refl (subst (StandsAt c.0 es) is h) made

pub replaced_there : (es new : Opens) (at : Result ℕ ℕ) (i : ℕ) (c : Name × Comm) → StandsAt c.0 es at → at ≡ Ok i → new ≡ take i es ++ c ∷ drop (i + 1) es → new ≡ upsert es c
replaced_there es new at i c h is made = found_put es i c.0 c new refl (subst (StandsAt c.0 es) is h) made

-- the chunks, one of which was changed in its place
pub put_position : (ps : List CommChunk) (c : Name × Comm) (s : Position) (h : IsPosition ps c.0 s) (p q : CommChunk) → p ≡ get_or ps s.chunk p → (arc_value q).items ≡ upsert (arc_value p).items c → comms_in (set ps s.chunk q) ≡ upsert (comms_in ps) c
put_position ps c s h p q is changed =
    put_set ps s.chunk (arc_value h.one).items (arc_value q).items (comms_in (set ps s.chunk q)) c (position_stands ps c.0 s h)
    (changed ∙ ap (λ (r : CommChunk). upsert (arc_value r).items c) (position_one ps c.0 s h p is)) (set_flat ps s.chunk q (position_within ps c.0 s h))

pub out_position : (ps new : List CommChunk) (k : Name) (n i : ℕ) (h : IsPosition ps k (record { chunk = n; at = Ok i })) (left : Opens) → IsInOrder (comms_in ps) → left ≡ take i (arc_value h.one).items ++ drop (i + 1) (arc_value h.one).items
    → comms_in new ≡ comms_in (take n ps) ++ (left ++ comms_in (drop (n + 1) ps)) → comms_in new ≡ without (comms_in ps) k
out_position ps new k n i h left o is made = out_set ps n (arc_value h.one).items left (comms_in new) k o (position_stands ps k (record { chunk = n; at = Ok i }) h) (found_out (arc_value h.one).items i k left h.there is) made

pub one_left : (es : Opens) (i : ℕ) → length es ≡ 1 → i < length es → [] ≡ take i es ++ drop (i + 1) es
one_left [] i one h = absurd (omega arith)
one_left (e ∷ []) zero one h = refl
one_left (e ∷ []) (suc i) one h = absurd (omega arith)
one_left (e ∷ d ∷ es) i one h = absurd (omega arith)

pub more_than_one : (n : ℕ) → (n ≡ 1 → ⊥) → 0 < n → 1 < n
more_than_one zero h some = absurd (omega arith)
more_than_one (suc zero) h some = absurd (h refl)
more_than_one (suc (suc n)) h some = omega arith

pub more_left : (es left : Opens) (i : ℕ) → 1 < length es → i < length es → left ≡ take i es ++ drop (i + 1) es → 0 < length left
more_left es left i more h is = omega (arith, ap length is, length-append (take i es) (drop (i + 1) es), length-take-le i es (omega arith), length-drop (i + 1) es)

pub put_some : (es : Opens) (c : Name × Comm) → 0 < length (upsert es c)
put_some [] c = omega arith
put_some (e ∷ es) c =
    elim (id_cmp c.0 e.0) as (λ o. 0 < length (match_ordering o (c ∷ e ∷ es) ((e.0, c.1) ∷ es) (e ∷ upsert es c))) [ Less ↦ omega arith | Equal ↦ omega arith | Greater ↦ omega arith ]

-- ---- where a comm is seen

is_equal : (o : Ordering) → is_eq o ≡ true → o ≡ Equal
is_equal Less h = absurd (cc h)
is_equal Equal h = refl
is_equal Greater h = absurd (cc h)

pub is_less : (o : Ordering) → is_lt o ≡ true → o ≡ Less
is_less Less h = refl
is_less Equal h = absurd (cc h)
is_less Greater h = absurd (cc h)

is_greater : (o : Ordering) → is_gt o ≡ true → o ≡ Greater
is_greater Less h = absurd (cc h)
is_greater Equal h = absurd (cc h)
is_greater Greater h = refl

module _ (k : Name) (ps : List CommChunk) (n : ℕ) (p : CommChunk) (v : Vec (Name × Comm) Global) (xs : Opens) (within : n < length ps) (is : p ≡ get_or ps n p) (deref : v ≡ arc_value p) (items : xs ≡ v.items) (order : IsInOrder (comms_in ps)) where
  these : xs ≡ (arc_value p).items
  these = items ∙ ap (λ (w : Vec (Name × Comm) Global). w.items) deref

  ordered : IsInOrder xs
  ordered = ordered_chunk _ _ _ _ (around ps n p v xs within is deref items) order

  -- the comms before one and behind it
  cut : (i : ℕ) (x : Name × Comm) → i < length xs → x ≡ get_or xs i x → comms_in ps ≡ (comms_in (take n ps) ++ take i xs) ++ x ∷ (drop (i + 1) xs ++ comms_in (drop (n + 1) ps))
  cut i x h here =
      let before : Opens = comms_in (take n ps) in
      let after : Opens = comms_in (drop (n + 1) ps) in
      around ps n p v xs within is deref items ∙ ap (λ l. before ++ (l ++ after)) (sym (take-append-drop i xs) ∙ ap (λ l. take i xs ++ l) (first_is xs i x h here))
      ∙ ap (λ l. before ++ l) (append_assoc (take i xs) (x ∷ drop (i + 1) xs) after) ∙ sym (append_assoc before (take i xs) (x ∷ (drop (i + 1) xs ++ after)))

  before_one : (i : ℕ) (x : Name × Comm) → i < length xs → x ≡ get_or xs i x → (id_cmp k x.0 ≡ Less → ⊥) → AllIdsBelow k (comms_in (take n ps))
  before_one i x h here more = below_part k (comms_in (take n ps)) (take i xs) (below_front k (comms_in (take n ps) ++ take i xs) x (drop (i + 1) xs ++ comms_in (drop (n + 1) ps)) (subst IsInOrder (cut i x h here) order) more)

  behind_one : (i : ℕ) (x : Name × Comm) → i < length xs → x ≡ get_or xs i x → (id_cmp k x.0 ≡ Greater → ⊥) → IsBelowFirst k (comms_in (drop (n + 1) ps))
  behind_one i x h here less =
      let all = above_back k (comms_in (take n ps) ++ take i xs) x (drop (i + 1) xs ++ comms_in (drop (n + 1) ps)) (subst IsInOrder (cut i x h here) order) less in
      absent_of k (comms_in (drop (n + 1) ps)) (below_right k (drop (i + 1) xs) (comms_in (drop (n + 1) ps)) all)

  pub found_position : (i : ℕ) (x : Name × Comm) → i < length xs → x ≡ get_or xs i x → is_eq (id_cmp k x.0) ≡ true → IsPosition ps k (record { chunk = n; at = Ok i })
  found_position i x h here found =
      let same : id_cmp k x.0 ≡ Equal = is_equal (id_cmp k x.0) found in
      let there : id_cmp k (get_or xs i x).0 ≡ Equal = ap (λ (e : Name × Comm). id_cmp k e.0) (sym here) ∙ same in
      record {
        one = p;
        here = first_is ps n p within is;
        below = before_one i x h here (λ no. cc (same, no));
        above = behind_one i x h here (λ no. cc (same, no));
        there = subst (λ es. StandsAt k es (Ok i)) these (h, below_found k xs i x ordered h there, found_at k xs i x h there);
      }

  -- behind one, and before another of this chunk or of those behind it
  pub gap_position : (i : ℕ) (x : Name × Comm) → 0 < i → i ≤ length xs → x ≡ get_or xs (i - 1) x → is_gt (id_cmp k x.0) ≡ true → IsBelowFirst k (drop i xs) → IsBelowFirst k (comms_in (drop (n + 1) ps)) → IsPosition ps k (record { chunk = n; at = Err i })
  gap_position i x some h here above absent behind =
      let more : id_cmp k x.0 ≡ Greater = is_greater (id_cmp k x.0) above in
      let there : id_cmp k (get_or xs (i - 1) x).0 ≡ Greater = ap (λ (e : Name × Comm). id_cmp k e.0) (sym here) ∙ more in
      let next : suc (i - 1) ≡ i = omega arith in
      record {
        one = p;
        here = first_is ps n p within is;
        below = before_one (i - 1) x (omega arith) here (λ no. cc (more, no));
        above = behind;
        there = subst (λ es. StandsAt k es (Err i)) these (h, subst (λ m. AllIdsBelow k (take m xs)) next (below_at k xs (i - 1) x ordered (omega arith) there), absent);
      }

  pub gap_before : (i : ℕ) (y : Name × Comm) → i < length xs → y ≡ get_or xs i y → is_lt (id_cmp k y.0) ≡ true → IsBelowFirst k (drop i xs) × IsBelowFirst k (comms_in (drop (n + 1) ps))
  gap_before i y h here below =
      let less : id_cmp k y.0 ≡ Less = is_less (id_cmp k y.0) below in
      let there : id_cmp k (get_or xs i y).0 ≡ Less = ap (λ (e : Name × Comm). id_cmp k e.0) (sym here) ∙ less in
      (absent_at k xs i y h there, behind_one i y h here (λ no. cc (less, no)))

pub absent_end : (k : Name) (es : Opens) (i : ℕ) → length es ≤ i → IsBelowFirst k (drop i es)
absent_end k [] zero h = tt
absent_end k [] (suc i) h = tt
absent_end k (e ∷ es) zero h = absurd (omega arith)
absent_end k (e ∷ es) (suc i) h = absent_end k es i (omega arith)
