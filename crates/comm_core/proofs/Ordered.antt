-- Entries in the byte order of their keys, before and after a change.
use Rattle.std.proofs.Common.{◌≡◌, true, false, cond, not, List, [], ◌∷◌, ◌++◌, filter, fold, None, Some, Less, Equal, Greater, refl, ap, sym, ◌∙◌, subst}
use Rattle.std.specs.Str.{bytes_eq}
use Rattle.std.specs.List.{AllByRecursion}
use Rattle.std.specs.List.Sorted.{IsStrictlySortedBy}
use Rattle.std.specs.Ordering.{ordering_reverse}
use Rattle.std.specs.Cmp.Lexicographic.{nat_list_cmp_total}
use Rattle.std.specs.Map.{keys_of}
use Rattle.std.proofs.lemmas.Map.Lookups.{exact_bytes}
use Rattle.comm_core.specs.Machine.{Name, at, without, with_at, ids_of, others, AreDistinct}
use Rattle.comm_core.specs.Tables.{Opens}
use Rattle.comm_core.specs.Reads.{in_order}
use Rattle.comm_core.specs.Row.{without_all}
use Rattle.comm_core.specs.declared.comm.Comm.{Comm}
use Rattle.comm_core.proofs.Keys.{same_text, text_itself, at-with_at, at-with_at-other}
use Rattle.comm_core.proofs.Agreeing.{distinct-with_at}
use Rattle.comm_core.proofs.Gone.{none≢some, distinct-without, at-without-other, at-without-gone}
use Rattle.comm_core.proofs.Listing.{order, IsInOrder, put, all_weaker, none_below, put_in_order, put_all_in_order, distinct_in_order, at-put, at-in_order}

-- ---- entries in order are told by what they have

module _ {X : Type 0} where
  first_there : (e : Name × X) (es : List (Name × X)) → at (e ∷ es) e.0 ≡ Some e.1
  first_there e es = ap (λ b. cond b (Some e.1) (at es e.0)) (text_itself e.0)

  none_under : (d : Name) (e : Name × X) (es : List (Name × X)) → IsInOrder (e ∷ es) → order d e.0 ≡ Less → at (e ∷ es) d ≡ None
  unfolding IsStrictlySortedBy
  none_under d e es o less = none_below d (e ∷ es) (less, all_weaker (λ n. nat_list_cmp_total.trans d e.0 n less) (keys_of es) o.0)

  rest_same : (d : Name × X) (ds es : List (Name × X)) → at ds d.0 ≡ None → at es d.0 ≡ None → ((k : Name) → at (d ∷ ds) k ≡ at (d ∷ es) k)
      → (k : Name) → at ds k ≡ at es k
  rest_same d ds es nd ne same k =
      (elim (bytes_eq k d.0) as (λ b. bytes_eq k d.0 ≡ b → cond b (Some d.1) (at ds k) ≡ cond b (Some d.1) (at es k) → at ds k ≡ at es k) [
        | true ↦ λ is _. subst (λ z. at ds z ≡ at es z) (sym (same_text k d.0 is)) (nd ∙ sym ne)
        | false ↦ λ _ l. l
      ]) refl (same k)

  pub same_entries : (ds es : List (Name × X)) → IsInOrder ds → IsInOrder es → ((k : Name) → at ds k ≡ at es k) → ds ≡ es
  unfolding IsStrictlySortedBy
  same_entries [] [] o p same = refl
  same_entries [] (e ∷ es) o p same = absurd (none≢some e.1 (same e.0 ∙ first_there e es))
  same_entries (d ∷ ds) [] o p same = absurd (none≢some d.1 (sym (same d.0) ∙ first_there d ds))
  same_entries (d ∷ ds) (e ∷ es) o p same =
      let more = same_entries ds es o.1 p.1 in
      (elim (order d.0 e.0) as (λ c. order d.0 e.0 ≡ c → d ∷ ds ≡ e ∷ es) [
        | Less ↦ λ less. absurd (none≢some d.1 (sym (none_under d.0 e es p less) ∙ sym (same d.0) ∙ first_there d ds))
        | Equal ↦ λ is.
            let key : d.0 ≡ e.0 = exact_bytes d.0 e.0 is in
            let value : Some d.1 ≡ Some e.1 = sym (first_there d ds) ∙ same d.0 ∙ ap (λ k. at (e ∷ es) k) key ∙ first_there e es in
            let inner : d.1 ≡ e.1 = cc in
            let first : d ≡ e = ap (λ (k : Name). (k, d.1)) key ∙ ap (λ (x : X). (e.0, x)) inner in
            let both : (k : Name) → at (d ∷ ds) k ≡ at (d ∷ es) k = λ k. same k ∙ ap (λ (x : Name × X). at (x ∷ es) k) (sym first) in
            let gone : at es d.0 ≡ None = ap (λ k. at es k) key ∙ (distinct_in_order (e ∷ es) p).0 in
            ap (λ (x : Name × X). x ∷ ds) first ∙ ap (λ l. e ∷ l) (more (rest_same d ds es (distinct_in_order (d ∷ ds) o).0 gone both))
        | Greater ↦ λ more_than.
            let less : order e.0 d.0 ≡ Less = nat_list_cmp_total.antisymm e.0 d.0 ∙ ap ordering_reverse more_than in
            absurd (none≢some e.1 (sym (none_under e.0 d ds o less) ∙ same e.0 ∙ first_there e es))
      ]) refl

-- ---- a change, before or after the entries are put in order

module _ {X : Type 0} where
  fold-snoc : (es done : List (Name × X)) (e : Name × X) → fold put done (es ++ e ∷ []) ≡ put (fold put done es) e
  fold-snoc [] done e = refl
  fold-snoc (x ∷ es) done e = fold-snoc es (put done x) e

  -- one more
  pub in_order-snoc : (es : List (Name × X)) (e : Name × X) → in_order (es ++ e ∷ []) ≡ put (in_order es) e
  in_order-snoc es e = fold-snoc es [] e

  -- another value
  pub in_order-with_at : (es : List (Name × X)) (k : Name) (x w : X) → AreDistinct es → at es k ≡ Some x → put (in_order es) (k, w) ≡ in_order (with_at es k w)
  in_order-with_at es k x w d there =
      same_entries (put (in_order es) (k, w)) (in_order (with_at es k w)) (put_in_order (in_order es) (k, w) (put_all_in_order es)) (put_all_in_order (with_at es k w))
      (λ q. at-put (in_order es) (k, w) q ∙ ap (λ o. cond (bytes_eq q k) (Some w) o) (at-in_order es q d)
      ∙ (elim (bytes_eq q k) as (λ b. bytes_eq q k ≡ b → cond b (Some w) (at es q) ≡ at (with_at es k w) q) [
        | true ↦ λ is. subst (λ z. Some w ≡ at (with_at es k w) z) (sym (same_text q k is)) (sym (at-with_at k es x w there))
        | false ↦ λ is. sym (at-with_at-other k es w q is)
      ]) refl ∙ sym (at-in_order (with_at es k w) q (distinct-with_at es k w d)))

  all_without : (P : Name → Type 0) (es : List (Name × X)) (k : Name) → AllByRecursion P (keys_of es) → AllByRecursion P (keys_of (without es k))
  all_without P [] k h = tt
  all_without P (e ∷ es) k h =
      let more = all_without P es k h.1 in
      elim (bytes_eq k e.0) as (λ b. AllByRecursion P (keys_of (cond b es (e ∷ without es k)))) [ true ↦ h.1 | false ↦ (h.0, more) ]

  pub without_in_order : (es : List (Name × X)) (k : Name) → IsInOrder es → IsInOrder (without es k)
  unfolding IsStrictlySortedBy
  without_in_order [] k h = tt
  without_in_order (e ∷ es) k h =
      let more = without_in_order es k h.1 in
      elim (bytes_eq k e.0) as (λ b. IsInOrder (cond b es (e ∷ without es k))) [ true ↦ h.1 | false ↦ (all_without (λ n. order e.0 n ≡ Less) es k h.0, more) ]

  at-both_without : (xs ys : List (Name × X)) (k : Name) → AreDistinct xs → AreDistinct ys → ((q : Name) → at xs q ≡ at ys q) → (q : Name) → at (without xs k) q ≡ at (without ys k) q
  at-both_without xs ys k dx dy same q =
      (elim (bytes_eq q k) as (λ b. bytes_eq q k ≡ b → at (without xs k) q ≡ at (without ys k) q) [
        | true ↦ λ is. subst (λ z. at (without xs k) z ≡ at (without ys k) z) (sym (same_text q k is)) (at-without-gone xs k dx ∙ sym (at-without-gone ys k dy))
        | false ↦ λ is. at-without-other xs k q is ∙ same q ∙ sym (at-without-other ys k q is)
      ]) refl

  -- one less
  pub in_order-without : (es : List (Name × X)) (k : Name) → AreDistinct es → without (in_order es) k ≡ in_order (without es k)
  in_order-without es k d =
      same_entries (without (in_order es) k) (in_order (without es k)) (without_in_order (in_order es) k (put_all_in_order es)) (put_all_in_order (without es k))
      (λ q. at-both_without (in_order es) es k (distinct_in_order (in_order es) (put_all_in_order es)) d (λ z. at-in_order es z d) q
      ∙ sym (at-in_order (without es k) q (distinct-without es k d)))

  -- some less
  pub in_order-without_all : (ids : List Name) (es : List (Name × X)) → AreDistinct es → without_all ids (in_order es) ≡ in_order (without_all ids es)
  in_order-without_all [] es d = refl
  in_order-without_all (id ∷ ids) es d =
      ap (without_all ids) (in_order-without es id d) ∙ in_order-without_all ids (without es id) (distinct-without es id d)

-- ---- the comms of a target

abbrev AreApart : Name → List Name → Type 0
AreApart k [] = Unit {0}
AreApart k (id ∷ ids) = (bytes_eq id k ≡ false) × AreApart k ids

skip_one : (ids : List Name) (e : Name × Comm) (es : Opens) → AreApart e.0 ids → without_all ids (e ∷ es) ≡ e ∷ without_all ids es
skip_one [] e es h = refl
skip_one (id ∷ ids) e es h = ap (λ b. without_all ids (cond b es (e ∷ without es id))) h.0 ∙ skip_one ids e (without es id) h.1

apart_ids : (name k : Name) (es : Opens) → at es k ≡ None → AreApart k (ids_of name es)
apart_ids name k [] h = tt
apart_ids name k (e ∷ es) h =
    let more = apart_ids name k es in
    (elim (bytes_eq k e.0) as (λ b. bytes_eq k e.0 ≡ b → cond b (Some e.1) (at es k) ≡ None → AreApart k (ids_of name (e ∷ es))) [
      | true ↦ λ _ l. absurd (none≢some e.1 (sym l))
      | false ↦ λ other l.
          elim (bytes_eq name e.1.target) as (λ b. AreApart k (keys_of (cond b (e ∷ filter (λ (z : Name × Comm). bytes_eq name z.1.target) es) (filter (λ (z : Name × Comm). bytes_eq name z.1.target) es)))) [
            | true ↦ (turned k e.0 other, more l)
            | false ↦ more l
          ]
    ]) refl h
  where
    turned : (x y : Name) → bytes_eq x y ≡ false → bytes_eq y x ≡ false
    turned x y h =
        (elim (bytes_eq y x) as (λ b. bytes_eq y x ≡ b → b ≡ false) [
          | true ↦ λ same. sym (text_itself x) ∙ ap (bytes_eq x) (sym (same_text y x same)) ∙ h
          | false ↦ λ _. refl
        ]) refl

pub others-without_all : (name : Name) (es : Opens) → AreDistinct es → without_all (ids_of name es) es ≡ others name es
others-without_all name [] d = refl
others-without_all name (e ∷ es) d =
    let more = others-without_all name es d.1 in
    elim (bytes_eq name e.1.target) as (λ b. without_all (keys_of (cond b (e ∷ filter (λ (z : Name × Comm). bytes_eq name z.1.target) es) (filter (λ (z : Name × Comm). bytes_eq name z.1.target) es))) (e ∷ es) ≡ cond (not b) (e ∷ others name es) (others name es)) [
      | true ↦ ap (λ b. without_all (ids_of name es) (cond b es (e ∷ without es e.0))) (text_itself e.0) ∙ more
      | false ↦ skip_one (ids_of name es) e es (apart_ids name e.0 es d.0) ∙ ap (λ l. e ∷ l) more
    ]
