-- Entries after one of them, or those of a target, are taken out.
use Rattle.std.proofs.Common.{◌≡◌, ℕ, true, false, cond, not, List, [], ◌∷◌, ◌++◌, Option, None, Some, is_some, filter, refl, ap, sym, ◌∙◌, subst, true≢false}
use Rattle.std.specs.Str.{bytes_eq}
use Rattle.std.specs.Map.{keys_of}
use Rattle.comm_targets.specs.Meaning.{without as without_id}
use Rattle.comm_core.specs.Machine.{at, without, with_at, ids_of, others, AreDistinct}
use Rattle.comm_core.specs.Tables.{Opens}
use Rattle.comm_core.specs.declared.comm.Comm.{Comm}
use Rattle.comm_core.proofs.Keys.{same_text, text_itself}

pub none≢some : {X : Type 0} (x : X) → ◌≡◌ {A = Option X} None (Some x) → ⊥
none≢some x h = true≢false (sym (ap is_some h))

module _ {X : Type 0} where
  pub none-without : (es : List (List ℕ × X)) (k q : List ℕ) → at es q ≡ None → at (without es k) q ≡ None
  none-without [] k q h = h
  none-without (e ∷ es) k q h =
      let more = none-without es k q in
      (elim (bytes_eq q e.0) as (λ b. bytes_eq q e.0 ≡ b → cond b (Some e.1) (at es q) ≡ None → at (cond (bytes_eq k e.0) es (e ∷ without es k)) q ≡ None) [
        | true ↦ λ _ l. cc
        | false ↦ λ p l. elim (bytes_eq k e.0) as (λ b. at (cond b es (e ∷ without es k)) q ≡ None) [ true ↦ l | false ↦ rw p (more l) ]
      ]) refl h

  pub distinct-without : (es : List (List ℕ × X)) (k : List ℕ) → AreDistinct es → AreDistinct (without es k)
  distinct-without [] k h = h
  distinct-without (e ∷ es) k h =
      let more = distinct-without es k h.1 in
      elim (bytes_eq k e.0) as (λ b. AreDistinct (cond b es (e ∷ without es k))) [ true ↦ h.1 | false ↦ (none-without es k e.0 h.0, more) ]

  pub at-without-other : (es : List (List ℕ × X)) (k q : List ℕ) → bytes_eq q k ≡ false → at (without es k) q ≡ at es q
  at-without-other [] k q h = refl
  at-without-other (e ∷ es) k q h =
      let more = at-without-other es k q h in
      (elim (bytes_eq k e.0) as (λ b. bytes_eq k e.0 ≡ b → at (cond b es (e ∷ without es k)) q ≡ at (e ∷ es) q) [
        | true ↦ λ p. let n : bytes_eq q e.0 ≡ false = subst (λ z. bytes_eq q z ≡ false) (same_text k e.0 p) h in rw n
        | false ↦ λ p. ap (λ o. cond (bytes_eq q e.0) (Some e.1) o) more
      ]) refl

  pub at-without-gone : (es : List (List ℕ × X)) (k : List ℕ) → AreDistinct es → at (without es k) k ≡ None
  at-without-gone [] k h = refl
  at-without-gone (e ∷ es) k h =
      let more = at-without-gone es k h.1 in
      (elim (bytes_eq k e.0) as (λ b. bytes_eq k e.0 ≡ b → at (cond b es (e ∷ without es k)) k ≡ None) [
        | true ↦ λ p. subst (λ z. at es z ≡ None) (sym (same_text k e.0 p)) h.0
        | false ↦ λ p. rw p more
      ]) refl

  -- What is there was there, under another key.
  pub at-without : (es : List (List ℕ × X)) (k q : List ℕ) (x : X) → AreDistinct es → at (without es k) q ≡ Some x → (at es q ≡ Some x) × (bytes_eq q k ≡ false)
  at-without es k q x d h =
      (elim (bytes_eq q k) as (λ b. bytes_eq q k ≡ b → (at es q ≡ Some x) × (b ≡ false)) [
        | true ↦ λ p. absurd (none≢some x (sym (at-without-gone es k d) ∙ subst (λ z. at (without es k) z ≡ Some x) (same_text q k p) h))
        | false ↦ λ p. (sym (at-without-other es k q p) ∙ h, refl)
      ]) refl

  pub at-longer : (es : List (List ℕ × X)) (k : List ℕ) (w : X) (q : List ℕ) (x : X) → at es q ≡ Some x → at (es ++ (k, w) ∷ []) q ≡ Some x
  at-longer [] k w q x h = absurd (none≢some x h)
  at-longer (e ∷ es) k w q x h =
      let more = at-longer es k w q x in
      (elim (bytes_eq q e.0) as (λ b. cond b (Some e.1) (at es q) ≡ Some x → cond b (Some e.1) (at (es ++ (k, w) ∷ []) q) ≡ Some x) [
        | true ↦ λ l. l
        | false ↦ λ l. more l
      ]) h

-- The ids of a target where one comm is taken out.
pub ids_of-without : (name id : List ℕ) (es : Opens) (x : Comm) → at es id ≡ Some x → bytes_eq name x.target ≡ true → ids_of name (without es id) ≡ without_id id (ids_of name es)
ids_of-without name id [] x h t = refl
ids_of-without name id (e ∷ es) x h t =
    let more = ids_of-without name id es x in
    let F : Opens → Opens = λ l. filter (λ (z : List ℕ × Comm). bytes_eq name z.1.target) l in
    (elim (bytes_eq id e.0) as (λ b. bytes_eq id e.0 ≡ b → cond b (Some e.1) (at es id) ≡ Some x → ids_of name (cond b es (e ∷ without es id)) ≡ without_id id (ids_of name (e ∷ es))) [
      | true ↦ λ p l. let s : e.1 ≡ x = cc in let q : bytes_eq name e.1.target ≡ true = rw s t in rw (q, p)
      | false ↦ λ p l.
          elim (bytes_eq name e.1.target) as (λ b. keys_of (cond b (e ∷ F (without es id)) (F (without es id))) ≡ without_id id (keys_of (cond b (e ∷ F es) (F es)))) [
            | true ↦ rw p (ap (λ r. e.0 ∷ r) (more l t))
            | false ↦ more l t
          ]
    ]) refl h

pub ids_of-without-other : (name id : List ℕ) (es : Opens) (x : Comm) → at es id ≡ Some x → bytes_eq name x.target ≡ false → ids_of name (without es id) ≡ ids_of name es
ids_of-without-other name id [] x h t = refl
ids_of-without-other name id (e ∷ es) x h t =
    let more = ids_of-without-other name id es x in
    let F : Opens → Opens = λ l. filter (λ (z : List ℕ × Comm). bytes_eq name z.1.target) l in
    (elim (bytes_eq id e.0) as (λ b. cond b (Some e.1) (at es id) ≡ Some x → ids_of name (cond b es (e ∷ without es id)) ≡ ids_of name (e ∷ es)) [
      | true ↦ λ l. let s : e.1 ≡ x = cc in let q : bytes_eq name e.1.target ≡ false = rw s t in rw q
      | false ↦ λ l.
          elim (bytes_eq name e.1.target) as (λ b. keys_of (cond b (e ∷ F (without es id)) (F (without es id))) ≡ keys_of (cond b (e ∷ F es) (F es))) [
            | true ↦ ap (λ r. e.0 ∷ r) (more l t)
            | false ↦ more l t
          ]
    ]) h

-- The ids of a target where one comm has another value, of the same target.
pub ids_of-with_at : (name id : List ℕ) (es : Opens) (x v : Comm) → at es id ≡ Some x → v.target ≡ x.target → ids_of name (with_at es id v) ≡ ids_of name es
ids_of-with_at name id [] x v h t = refl
ids_of-with_at name id (e ∷ es) x v h t =
    let more = ids_of-with_at name id es x v in
    let F : Opens → Opens = λ l. filter (λ (z : List ℕ × Comm). bytes_eq name z.1.target) l in
    (elim (bytes_eq id e.0) as (λ b. cond b (Some e.1) (at es id) ≡ Some x → ids_of name (cond b ((e.0, v) ∷ es) (e ∷ with_at es id v)) ≡ ids_of name (e ∷ es)) [
      | true ↦ λ l.
          let s : e.1 ≡ x = cc in
          let q : v.target ≡ e.1.target = t ∙ ap (λ (z : Comm). z.target) (sym s) in
          ap (λ k. keys_of (cond (bytes_eq name k) ((e.0, v) ∷ F es) (F es))) q
          ∙ (elim (bytes_eq name e.1.target) as (λ b. keys_of (cond b ((e.0, v) ∷ F es) (F es)) ≡ keys_of (cond b (e ∷ F es) (F es))) [ true ↦ refl | false ↦ refl ])
      | false ↦ λ l.
          elim (bytes_eq name e.1.target) as (λ b. keys_of (cond b (e ∷ F (with_at es id v)) (F (with_at es id v))) ≡ keys_of (cond b (e ∷ F es) (F es))) [
            | true ↦ ap (λ r. e.0 ∷ r) (more l t)
            | false ↦ more l t
          ]
    ]) h

pub none-others : (name : List ℕ) (es : Opens) (q : List ℕ) → at es q ≡ None → at (others name es) q ≡ None
none-others name [] q h = h
none-others name (e ∷ es) q h =
    let more = none-others name es q in
    (elim (bytes_eq q e.0) as (λ b. bytes_eq q e.0 ≡ b → cond b (Some e.1) (at es q) ≡ None → at (cond (not (bytes_eq name e.1.target)) (e ∷ others name es) (others name es)) q ≡ None) [
      | true ↦ λ _ l. cc
      | false ↦ λ p l. elim (not (bytes_eq name e.1.target)) as (λ b. at (cond b (e ∷ others name es) (others name es)) q ≡ None) [ true ↦ rw p (more l) | false ↦ more l ]
    ]) refl h

pub distinct-others : (name : List ℕ) (es : Opens) → AreDistinct es → AreDistinct (others name es)
distinct-others name [] h = h
distinct-others name (e ∷ es) h =
    let more = distinct-others name es h.1 in
    elim (not (bytes_eq name e.1.target)) as (λ b. AreDistinct (cond b (e ∷ others name es) (others name es))) [ true ↦ (none-others name es e.0 h.0, more) | false ↦ more ]

-- A comm of another target was there, and is of another target.
pub at-others : (name : List ℕ) (es : Opens) (q : List ℕ) (x : Comm) → AreDistinct es → at (others name es) q ≡ Some x → (at es q ≡ Some x) × (bytes_eq name x.target ≡ false)
at-others name [] q x d h = absurd (none≢some x h)
at-others name (e ∷ es) q x d h =
    let more = at-others name es q x d.1 in
    (elim (bytes_eq name e.1.target) as (λ b. bytes_eq name e.1.target ≡ b → at (cond (not b) (e ∷ others name es) (others name es)) q ≡ Some x → (at (e ∷ es) q ≡ Some x) × (bytes_eq name x.target ≡ false)) [
      | true ↦ λ _ l.
          let r = more l in
          (elim (bytes_eq q e.0) as (λ b. bytes_eq q e.0 ≡ b → (cond b (Some e.1) (at es q) ≡ Some x) × (bytes_eq name x.target ≡ false)) [
            | true ↦ λ p. absurd (none≢some x (sym (subst (λ z. at es z ≡ None) (sym (same_text q e.0 p)) d.0) ∙ r.0))
            | false ↦ λ p. r
          ]) refl
      | false ↦ λ t l.
          (elim (bytes_eq q e.0) as (λ b. cond b (Some e.1) (at (others name es) q) ≡ Some x → (cond b (Some e.1) (at es q) ≡ Some x) × (bytes_eq name x.target ≡ false)) [
            | true ↦ λ k. let s : e.1 ≡ x = cc in (k, subst (λ (z : Comm). bytes_eq name z.target ≡ false) s t)
            | false ↦ λ k. more k
          ]) l
    ]) refl h

pub ids_of-others : (name q : List ℕ) (es : Opens) → bytes_eq q name ≡ false → ids_of q (others name es) ≡ ids_of q es
ids_of-others name q [] h = refl
ids_of-others name q (e ∷ es) h =
    let more = ids_of-others name q es h in
    let F : Opens → Opens = λ l. filter (λ (z : List ℕ × Comm). bytes_eq q z.1.target) l in
    (elim (bytes_eq name e.1.target) as (λ b. bytes_eq name e.1.target ≡ b → ids_of q (cond (not b) (e ∷ others name es) (others name es)) ≡ ids_of q (e ∷ es)) [
      | true ↦ λ p. let n : bytes_eq q e.1.target ≡ false = subst (λ z. bytes_eq q z ≡ false) (same_text name e.1.target p) h in rw n more
      | false ↦ λ p.
          elim (bytes_eq q e.1.target) as (λ b. keys_of (cond b (e ∷ F (others name es)) (F (others name es))) ≡ keys_of (cond b (e ∷ F es) (F es))) [
            | true ↦ ap (λ r. e.0 ∷ r) more
            | false ↦ more
          ]
    ]) refl

-- A name that no comm has has no ids.
pub no_ids : (name : List ℕ) (es : Opens) → AreDistinct es → ((q : List ℕ) (x : Comm) → at es q ≡ Some x → bytes_eq name x.target ≡ false) → ids_of name es ≡ []
no_ids name [] d h = refl
no_ids name (e ∷ es) d h =
    let first : bytes_eq name e.1.target ≡ false = h e.0 e.1 (rw (text_itself e.0)) in
    rw first (no_ids name es d.1 (λ q x there.
    (elim (bytes_eq q e.0) as (λ b. bytes_eq q e.0 ≡ b → bytes_eq name x.target ≡ false) [
      | true ↦ λ p. absurd (none≢some x (sym (subst (λ z. at es z ≡ None) (sym (same_text q e.0 p)) d.0) ∙ there))
      | false ↦ λ p. h q x (rw p there)
    ]) refl))
