-- Entries under texts, before and after a write.
use Rattle.std.proofs.Common.{◌≡◌, ℕ, true, false, cond, List, [], ◌∷◌, Some, refl, ap, sym, subst}
use Rattle.std.specs.Str.{bytes_eq}
use Rattle.std.proofs.lemmas.Slice.Eq.{bytes_eq-Decides}
use Rattle.comm_core.specs.Machine.{at, with_at}

pub same_text : (a b : List ℕ) → bytes_eq a b ≡ true → a ≡ b
same_text a b h = (bytes_eq-Decides a b).0 h

pub text_itself : (a : List ℕ) → bytes_eq a a ≡ true
text_itself a = (bytes_eq-Decides a a).1 refl

module _ {X : Type 0} (t : List ℕ) where
  -- What is written under a text is there.
  pub at-with_at : (es : List (List ℕ × X)) (x w : X) → at es t ≡ Some x → at (with_at es t w) t ≡ Some w
  at-with_at [] x w h = absurd (cc)
  at-with_at (e ∷ es) x w h =
      let more = at-with_at es x w in
      (elim (bytes_eq t e.0) as (λ b. bytes_eq t e.0 ≡ b → cond b (Some e.1) (at es t) ≡ Some x → at (cond b ((e.0, w) ∷ es) (e ∷ with_at es t w)) t ≡ Some w) [
        | true ↦ λ p _. rw p
        | false ↦ λ p l. rw p (more l)
      ]) refl h

  -- The other texts have what they had.
  pub at-with_at-other : (es : List (List ℕ × X)) (w : X) (q : List ℕ) → bytes_eq q t ≡ false → at (with_at es t w) q ≡ at es q
  at-with_at-other [] w q h = refl
  at-with_at-other (e ∷ es) w q h =
      let more = at-with_at-other es w q h in
      (elim (bytes_eq t e.0) as (λ b. bytes_eq t e.0 ≡ b → at (cond b ((e.0, w) ∷ es) (e ∷ with_at es t w)) q ≡ at (e ∷ es) q) [
        | true ↦ λ p. let n : bytes_eq q e.0 ≡ false = subst (λ k. bytes_eq q k ≡ false) (same_text t e.0 p) h in rw n
        | false ↦ λ p. ap (λ o. cond (bytes_eq q e.0) (Some e.1) o) more
      ]) refl

  -- A write of what is there changes nothing.
  pub with_at-same : (es : List (List ℕ × X)) (x : X) → at es t ≡ Some x → with_at es t x ≡ es
  with_at-same [] x h = refl
  with_at-same (e ∷ es) x h =
      let more = with_at-same es x in
      (elim (bytes_eq t e.0) as (λ b. cond b (Some e.1) (at es t) ≡ Some x → cond b ((e.0, x) ∷ es) (e ∷ with_at es t x) ≡ e ∷ es) [
        | true ↦ λ l. let s : e.1 ≡ x = cc in ap (λ y. (e.0, y) ∷ es) (sym s)
        | false ↦ λ l. ap (λ r. e ∷ r) (more l)
      ]) h

  -- The later write stays.
  pub with_at-twice : (es : List (List ℕ × X)) (v w : X) → with_at (with_at es t v) t w ≡ with_at es t w
  with_at-twice [] v w = refl
  with_at-twice (e ∷ es) v w =
      let more = with_at-twice es v w in
      (elim (bytes_eq t e.0) as (λ b. bytes_eq t e.0 ≡ b → with_at (cond b ((e.0, v) ∷ es) (e ∷ with_at es t v)) t w ≡ cond b ((e.0, w) ∷ es) (e ∷ with_at es t w)) [
        | true ↦ λ p. rw p
        | false ↦ λ p. rw p (ap (λ r. e ∷ r) more)
      ]) refl
