-- What the list of comms has, and in which order.
use Rattle.std.proofs.Common.{◌≡◌, ◌<◌, Bool, true, false, cond, List, [], ◌∷◌, map, filter, fold, Option, None, Some, Ordering, Less, Equal, Greater, refl, ap, sym, ◌∙◌, subst}
use Rattle.std.proofs.Math.ListN.{get_or-map}
use Rattle.std.specs.Str.{bytes_eq}
use Rattle.std.specs.List.{Contains, AllByRecursion, IsDistinct}
use Rattle.std.specs.List.Sorted.{IsStrictlySortedBy}
use Rattle.std.specs.Ordering.{nat_cmp, is_eq, eq_by_cmp, match_ordering, ordering_reverse}
use Rattle.std.specs.Cmp.Lexicographic.{slice_cmp, nat_list_eq_equiv, nat_list_cmp_total}
use Rattle.std.specs.Map.{keys_of}
use Rattle.std.specs.BTreeMap.{insert_entry}
use Rattle.std.proofs.lemmas.Map.Keys.{IsDistinct-from_sorted}
use Rattle.std.proofs.lemmas.Map.Lookups.{exact_bytes}
use Rattle.std.proofs.lemmas.Map.Text.{is_eq-slice_cmp}
use Rattle.std.proofs.lemmas.Map.Views.{Contains-from_lookup, lookup-from_Contains}
use Rattle.comm_messages.specs.declared.infos.Info.{Info}
use Rattle.comm_messages.specs.Listed.{IdsAreInOrder}
use Rattle.comm_core.specs.Machine.{Name, Machine, at, AreDistinct}
use Rattle.comm_core.specs.Tables.{Opens}
use Rattle.comm_core.specs.Reads.{info_of, in_order, passes, infos}
use Rattle.comm_core.specs.Kept.{pairs_of, shown}
use Rattle.comm_core.specs.Runs.{Pair, AsksFor}
use Rattle.comm_core.specs.declared.comm.Comm.{Comm}
use Rattle.comm_core.proofs.Keys.{same_text, text_itself}
use Rattle.comm_core.proofs.Entries.{length-map}
use Rattle.comm_core.proofs.Gone.{none≢some}
use Rattle.comm_core.proofs.Changes.{apart}

abbrev pub order : Name → Name → Ordering
order = slice_cmp nat_cmp

module _ {X : Type 0} where
  abbrev pub IsInOrder : List (Name × X) → Type 0
  IsInOrder es = IsStrictlySortedBy order (keys_of es)

  abbrev pub put : List (Name × X) → Name × X → List (Name × X)
  put done p = insert_entry order done p.0 p.1

-- ---- in order

pub all_weaker : {P Q : Name → Type 0} → ((n : Name) → P n → Q n) → (ns : List Name) → AllByRecursion P ns → AllByRecursion Q ns
all_weaker f [] h = tt
all_weaker f (n ∷ ns) h = (f n h.0, all_weaker f ns h.1)

module _ {X : Type 0} where
  all_put : (P : Name → Type 0) (es : List (Name × X)) (p : Name × X) → AllByRecursion P (keys_of es) → P p.0 → AllByRecursion P (keys_of (put es p))
  all_put P [] p h k = (k, tt)
  all_put P (e ∷ es) p h k =
      let more = all_put P es p h.1 k in
      elim (order p.0 e.0) as (λ o. AllByRecursion P (keys_of (match_ordering o (p ∷ e ∷ es) ((e.0, p.1) ∷ es) (e ∷ put es p)))) [
        | Less ↦ (k, h)
        | Equal ↦ h
        | Greater ↦ (h.0, more)
      ]

  pub put_in_order : (es : List (Name × X)) (p : Name × X) → IsInOrder es → IsInOrder (put es p)
  unfolding IsStrictlySortedBy
  put_in_order [] p h = (tt, tt)
  put_in_order (e ∷ es) p h =
      let more = put_in_order es p h.1 in
      (elim (order p.0 e.0) as (λ o. order p.0 e.0 ≡ o → IsInOrder (match_ordering o (p ∷ e ∷ es) ((e.0, p.1) ∷ es) (e ∷ put es p))) [
        | Less ↦ λ l. ((l, all_weaker (λ n. nat_list_cmp_total.trans p.0 e.0 n l) (keys_of es) h.0), h)
        | Equal ↦ λ _. h
        | Greater ↦ λ g. (all_put (λ n. order e.0 n ≡ Less) es p h.0 (nat_list_cmp_total.antisymm e.0 p.0 ∙ ap ordering_reverse g), more)
      ]) refl

  all_in_order : (ps done : List (Name × X)) → IsInOrder done → IsInOrder (fold put done ps)
  all_in_order [] done h = h
  all_in_order (p ∷ ps) done h = all_in_order ps (put done p) (put_in_order done p h)

  pub put_all_in_order : (es : List (Name × X)) → IsInOrder (in_order es)
  unfolding IsStrictlySortedBy
  put_all_in_order es = all_in_order es [] tt

  -- What is left of entries in order is in order.
  all_left : (q : Name × X → Bool) (P : Name → Type 0) (es : List (Name × X)) → AllByRecursion P (keys_of es) → AllByRecursion P (keys_of (filter q es))
  all_left q P [] h = tt
  all_left q P (e ∷ es) h =
      let more = all_left q P es h.1 in
      elim (q e) as (λ b. AllByRecursion P (keys_of (cond b (e ∷ filter q es) (filter q es)))) [ true ↦ (h.0, more) | false ↦ more ]

  left_in_order : (q : Name × X → Bool) (es : List (Name × X)) → IsInOrder es → IsInOrder (filter q es)
  unfolding IsStrictlySortedBy
  left_in_order q [] h = tt
  left_in_order q (e ∷ es) h =
      let more = left_in_order q es h.1 in
      elim (q e) as (λ b. IsInOrder (cond b (e ∷ filter q es) (filter q es))) [ true ↦ (all_left q (λ n. order e.0 n ≡ Less) es h.0, more) | false ↦ more ]

  -- Entries in order have each key once.
  pub none_below : (k : Name) (es : List (Name × X)) → AllByRecursion (λ n. order k n ≡ Less) (keys_of es) → at es k ≡ None
  none_below k [] h = refl
  none_below k (e ∷ es) h =
      let other : bytes_eq k e.0 ≡ false = sym (is_eq-slice_cmp k e.0) ∙ ap is_eq h.0 in
      ap (λ b. cond b (Some e.1) (at es k)) other ∙ none_below k es h.1

  pub distinct_in_order : (es : List (Name × X)) → IsInOrder es → AreDistinct es
  unfolding IsStrictlySortedBy
  distinct_in_order [] h = tt
  distinct_in_order (e ∷ es) h = (none_below e.0 es h.0, distinct_in_order es h.1)

-- ---- what a text has

abbrev first_some : {X : Type 0} → Option X → Option X → Option X
first_some None y = y
first_some (Some x) y = Some x

none_more : {X : Type 0} (o : Option X) → first_some o None ≡ o
none_more None = refl
none_more (Some x) = refl

module _ {X : Type 0} where
  pub at-put : (es : List (Name × X)) (p : Name × X) (q : Name) → at (put es p) q ≡ cond (bytes_eq q p.0) (Some p.1) (at es q)
  at-put [] p q = refl
  at-put (e ∷ es) p q =
      let more = at-put es p q in
      (elim (order p.0 e.0) as (λ o. order p.0 e.0 ≡ o → at (match_ordering o (p ∷ e ∷ es) ((e.0, p.1) ∷ es) (e ∷ put es p)) q ≡ cond (bytes_eq q p.0) (Some p.1) (cond (bytes_eq q e.0) (Some e.1) (at es q))) [
        | Less ↦ λ _. refl
        | Equal ↦ λ s. subst (λ z. cond (bytes_eq q e.0) (Some p.1) (at es q) ≡ cond (bytes_eq q z) (Some p.1) (cond (bytes_eq q e.0) (Some e.1) (at es q))) (sym (exact_bytes p.0 e.0 s))
            (elim (bytes_eq q e.0) as (λ b. cond b (Some p.1) (at es q) ≡ cond b (Some p.1) (cond b (Some e.1) (at es q))) [ true ↦ refl | false ↦ refl ])
        | Greater ↦ λ g.
            let other : bytes_eq p.0 e.0 ≡ false = sym (is_eq-slice_cmp p.0 e.0) ∙ ap is_eq g in
            (elim (bytes_eq q e.0) as (λ b. bytes_eq q e.0 ≡ b → cond b (Some e.1) (at (put es p) q) ≡ cond (bytes_eq q p.0) (Some p.1) (cond b (Some e.1) (at es q))) [
              | true ↦ λ is. let new : bytes_eq q p.0 ≡ false = differs_from q p.0 e.0 is other in rw new
              | false ↦ λ _. more
            ]) refl
      ]) refl
    where
      differs_from : (q k l : Name) → bytes_eq q l ≡ true → bytes_eq k l ≡ false → bytes_eq q k ≡ false
      differs_from q k l is other =
          (elim (bytes_eq q k) as (λ b. bytes_eq q k ≡ b → b ≡ false) [
            | true ↦ λ same. apart (bytes_eq k l) (subst (λ z. bytes_eq z l ≡ true) (same_text q k same) is) other
            | false ↦ λ _. refl
          ]) refl

  at-all : (ps done : List (Name × X)) (q : Name) → AreDistinct ps → at (fold put done ps) q ≡ first_some (at ps q) (at done q)
  at-all [] done q d = refl
  at-all (p ∷ ps) done q d =
      at-all ps (put done p) q d.1 ∙ ap (λ o. first_some (at ps q) o) (at-put done p q)
      ∙ (elim (bytes_eq q p.0) as (λ b. bytes_eq q p.0 ≡ b → first_some (at ps q) (cond b (Some p.1) (at done q)) ≡ first_some (cond b (Some p.1) (at ps q)) (at done q)) [
        | true ↦ λ is. let none : at ps q ≡ None = subst (λ z. at ps z ≡ None) (sym (same_text q p.0 is)) d.0 in rw none
        | false ↦ λ _. refl
      ]) refl

  pub at-in_order : (es : List (Name × X)) (q : Name) → AreDistinct es → at (in_order es) q ≡ at es q
  at-in_order es q d = at-all es [] q d ∙ none_more (at es q)

-- ---- the comms of a target that is asked for

-- their ids, with the names of their targets
abbrev asked_pairs : Option Name → Opens → List Pair
asked_pairs asked es = pairs_of (filter (λ e. passes asked e.1.target) es)

-- the target of a comm that is asked for
abbrev pub asked_target : Option Name → Option Comm → Option Name
asked_target asked None = None
asked_target asked (Some c) = cond (passes asked c.target) (Some c.target) None

at-asked : (asked : Option Name) (es : Opens) (q : Name) → AreDistinct es → at (asked_pairs asked es) q ≡ asked_target asked (at es q)
at-asked asked [] q d = refl
at-asked asked (e ∷ es) q d =
    let more = at-asked asked es q d.1 in
    (elim (passes asked e.1.target) as (λ b. passes asked e.1.target ≡ b
    → at (pairs_of (cond b (e ∷ filter (λ (z : Name × Comm). passes asked z.1.target) es) (filter (λ (z : Name × Comm). passes asked z.1.target) es))) q
    ≡ asked_target asked (cond (bytes_eq q e.0) (Some e.1) (at es q))) [
      | true ↦ λ p. elim (bytes_eq q e.0) as (λ b. cond b (Some e.1.target) (at (asked_pairs asked es) q) ≡ asked_target asked (cond b (Some e.1) (at es q))) [
        | true ↦ rw p refl
        | false ↦ more
      ]
      | false ↦ λ p. (elim (bytes_eq q e.0) as (λ b. bytes_eq q e.0 ≡ b → at (asked_pairs asked es) q ≡ asked_target asked (cond b (Some e.1) (at es q))) [
        | true ↦ λ is. more ∙ ap (asked_target asked) (subst (λ z. at es z ≡ None) (sym (same_text q e.0 is)) d.0) ∙ ap (λ b. cond b (Some e.1.target) None) (sym p)
        | false ↦ λ _. more
      ]) refl
    ]) refl

at-listed : (asked : Option Name) (es : Opens) (q : Name) → AreDistinct es → at (asked_pairs asked (in_order es)) q ≡ asked_target asked (at es q)
at-listed asked es q d = at-asked asked (in_order es) q (distinct_in_order (in_order es) (put_all_in_order es)) ∙ ap (asked_target asked) (at-in_order es q d)

-- ---- what the list has

same_tests : eq_by_cmp order ≡ bytes_eq
same_tests i x y = is_eq-slice_cmp x y i

ids_listed : (es : Opens) → map (λ (i : Info). i.id) (map info_of es) ≡ keys_of es
ids_listed [] = refl
ids_listed (e ∷ es) = ap (λ l. e.0 ∷ l) (ids_listed es)

ids_shown : (ps : List Pair) → map (λ (i : Info). i.id) (map shown ps) ≡ keys_of ps
ids_shown [] = refl
ids_shown (p ∷ ps) = ap (λ l. p.0 ∷ l) (ids_shown ps)

-- what is listed of entries in order is in order
pub shown_in_order : (ps : List Pair) → IdsAreInOrder (map shown (in_order ps))
shown_in_order ps = subst (λ l. IsStrictlySortedBy order l) (sym (ids_shown (in_order ps))) (put_all_in_order ps)

module _ (q : Info → Bool) where
  ids_left : (P : Name → Type 0) (is : List Info) → AllByRecursion P (map (λ (i : Info). i.id) is) → AllByRecursion P (map (λ (i : Info). i.id) (filter q is))
  ids_left P [] h = tt
  ids_left P (i ∷ is) h =
      let more = ids_left P is h.1 in
      elim (q i) as (λ b. AllByRecursion P (map (λ (i : Info). i.id) (cond b (i ∷ filter q is) (filter q is)))) [ true ↦ (h.0, more) | false ↦ more ]

  -- and so is a part of it
  pub part_in_order : (is : List Info) → IdsAreInOrder is → IdsAreInOrder (filter q is)
  unfolding IsStrictlySortedBy
  part_in_order [] h = tt
  part_in_order (i ∷ is) h =
      let more = part_in_order is h.1 in
      elim (q i) as (λ b. IdsAreInOrder (cond b (i ∷ filter q is) (filter q is))) [ true ↦ (ids_left (λ n. order i.id n ≡ Less) is h.0, more) | false ↦ more ]

ids_paired : (es : Opens) → keys_of (pairs_of es) ≡ keys_of es
ids_paired [] = refl
ids_paired (e ∷ es) = ap (λ l. e.0 ∷ l) (ids_paired es)

pub pairs_shown : (es : Opens) → map info_of es ≡ map shown (pairs_of es)
pairs_shown [] = refl
pairs_shown (e ∷ es) = ap (λ l. info_of e ∷ l) (pairs_shown es)

asked_in_order : (asked : Option Name) (es : Opens) → IsInOrder (filter (λ (e : Name × Comm). passes asked e.1.target) (in_order es))
asked_in_order asked es = left_in_order (λ e. passes asked e.1.target) (in_order es) (put_all_in_order es)

pub listed_in_order : (m : Machine) (asked : Option Name) → IsStrictlySortedBy (slice_cmp nat_cmp) (map (λ (i : Info). i.id) (infos m asked))
listed_in_order m asked =
    subst (λ l. IsStrictlySortedBy order l) (sym (ids_listed (filter (λ e. passes asked e.1.target) (in_order m.comms)))) (asked_in_order asked m.comms)

distinct_ids : (asked : Option Name) (es : Opens) → IsDistinct bytes_eq (keys_of (asked_pairs asked (in_order es)))
distinct_ids asked es =
    let F = filter (λ (e : Name × Comm). passes asked e.1.target) (in_order es) in
    subst (λ l. IsDistinct bytes_eq l) (sym (ids_paired F)) (subst (λ f. IsDistinct f (keys_of F)) same_tests (IsDistinct-from_sorted order (keys_of F) (asked_in_order asked es)))

contains_info : (es : List Pair) (p : Pair) → Contains es p → Contains (map shown es) (shown p)
contains_info es p h = (h.0, subst (λ n. h.0 < n) (sym (length-map shown es)) h.1, get_or-map shown es h.0 p ∙ ap shown h.2)

contains_pair : (es : List Pair) (p : Pair) → Contains (map shown es) (shown p) → Contains es p
contains_pair es p h =
    (h.0, subst (λ n. h.0 < n) (length-map shown es) h.1, ap (λ (i : Info). (i.id, i.target)) (sym (get_or-map shown es h.0 p) ∙ h.2))

-- the comm is there, and comms of its target are asked for
abbrev pub IsThere : Machine → Option Name → Name → Name → Type 0
IsThere m asked id target = AsksFor asked target × ((c : Comm) × (at m.comms id ≡ Some c) × (c.target ≡ target))

passes_asked : (asked : Option Name) (target : Name) → AsksFor asked target → passes asked target ≡ true
passes_asked None target a = refl
passes_asked (Some name) target a = subst (λ z. bytes_eq name z ≡ true) a (text_itself name)

asked_passes : (asked : Option Name) (target : Name) → passes asked target ≡ true → AsksFor asked target
asked_passes None target p = tt
asked_passes (Some name) target p = same_text name target p

there_asked : (asked : Option Name) (o : Option Comm) (target : Name) → asked_target asked o ≡ Some target
    → AsksFor asked target × ((c : Comm) × (o ≡ Some c) × (c.target ≡ target))
there_asked asked None target h = absurd (none≢some target h)
there_asked asked (Some c) target h =
    (elim (passes asked c.target) as (λ b. passes asked c.target ≡ b → cond b (Some c.target) None ≡ Some target → AsksFor asked target × ((x : Comm) × (Some c ≡ Some x) × (x.target ≡ target))) [
      | true ↦ λ p l. let e : c.target ≡ target = cc in (subst (λ t. AsksFor asked t) e (asked_passes asked c.target p), (c, refl, e))
      | false ↦ λ _ l. absurd (none≢some target l)
    ]) refl h

asked_there : (asked : Option Name) (o : Option Comm) (target : Name) → AsksFor asked target → (c : Comm) → o ≡ Some c → c.target ≡ target
    → asked_target asked o ≡ Some target
asked_there asked o target a c is e =
    ap (asked_target asked) is ∙ ap (λ t. cond (passes asked t) (Some t) None) e ∙ ap (λ b. cond b (Some target) None) (passes_asked asked target a)

module _ (m : Machine) (asked : Option Name) (id target : Name) (d : AreDistinct m.comms) where
  shown_listed : infos m asked ≡ map shown (asked_pairs asked (in_order m.comms))
  shown_listed = pairs_shown (filter (λ e. passes asked e.1.target) (in_order m.comms))

  pub listed_there : Contains (infos m asked) (record { id = id; target = target }) → IsThere m asked id target
  listed_there h =
      let es = asked_pairs asked (in_order m.comms) in
      there_asked asked (at m.comms id) target
      (sym (at-listed asked m.comms id d)
      ∙ lookup-from_Contains nat_list_eq_equiv id target es (distinct_ids asked m.comms) (contains_pair es (id, target) (subst (λ l. Contains l (shown (id, target))) shown_listed h)))

  pub there_listed : IsThere m asked id target → Contains (infos m asked) (record { id = id; target = target })
  there_listed h =
      let es = asked_pairs asked (in_order m.comms) in
      subst (λ l. Contains l (shown (id, target))) (sym shown_listed)
      (contains_info es (id, target) (Contains-from_lookup same_text id target es (at-listed asked m.comms id d ∙ asked_there asked (at m.comms id) target h.0 h.1.0 h.1.1 h.1.2)))
