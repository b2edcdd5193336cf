-- The tables agree after each change.
use Rattle.std.proofs.Common.{◌≡◌, ℕ, true, false, cond, List, [], ◌∷◌, ◌++◌, Option, None, Some, is_some, refl, ap, sym, ◌∙◌, subst, true≢false}
use Rattle.std.specs.Str.{bytes_eq}
use Rattle.comm_value.specs.Tree.{Members}
use Rattle.comm_targets.specs.Meaning.{Meaning, without as without_id}
use Rattle.comm_core.specs.Machine.{at, with_at, without, ids_of, others, AreDistinct}
use Rattle.comm_core.specs.Step.{stated}
use Rattle.comm_core.specs.Tables.{Targets, Opens, Agrees}
use Rattle.comm_core.specs.declared.comm.Comm.{Comm}
use Rattle.comm_core.proofs.Closing.{ids_of-more}
use Rattle.comm_core.proofs.Keys.{same_text, text_itself, at-with_at, at-with_at-other}
use Rattle.comm_core.proofs.Gone.{distinct-without, at-without, at-without-other, at-longer, ids_of-without, ids_of-without-other, ids_of-with_at, distinct-others, at-others, ids_of-others, no_ids}

pub differs : (a b : List ℕ) → bytes_eq a b ≡ false → bytes_eq b a ≡ false
differs a b h =
    (elim (bytes_eq b a) as (λ x. bytes_eq b a ≡ x → x ≡ false) [
      | false ↦ λ _. refl
      | true ↦ λ p. absurd (true≢false (sym (text_itself a) ∙ subst (λ k. bytes_eq a k ≡ false) (same_text b a p) h))
    ]) refl

module _ {X : Type 0} where
  pub none-with_at : (es : List (List ℕ × X)) (t : List ℕ) (w : X) (q : List ℕ) → at es q ≡ None → at (with_at es t w) q ≡ None
  none-with_at [] t w q h = refl
  none-with_at (e ∷ es) t w q h =
      let more = none-with_at es t w q in
      (elim (bytes_eq q e.0) as (λ b. bytes_eq q e.0 ≡ b → cond b (Some e.1) (at es q) ≡ None → at (cond (bytes_eq t e.0) ((e.0, w) ∷ es) (e ∷ with_at es t w)) q ≡ None) [
        | true ↦ λ _ l. cc
        | false ↦ λ p l. elim (bytes_eq t e.0) as (λ b. at (cond b ((e.0, w) ∷ es) (e ∷ with_at es t w)) q ≡ None) [
          | true ↦ rw p l
          | false ↦ rw p (more l)
        ]
      ]) refl h

  pub distinct-with_at : (es : List (List ℕ × X)) (t : List ℕ) (w : X) → AreDistinct es → AreDistinct (with_at es t w)
  distinct-with_at [] t w h = h
  distinct-with_at (e ∷ es) t w h =
      let more = distinct-with_at es t w h.1 in
      elim (bytes_eq t e.0) as (λ b. AreDistinct (cond b ((e.0, w) ∷ es) (e ∷ with_at es t w))) [
        | true ↦ (h.0, h.1)
        | false ↦ (none-with_at es t w e.0 h.0, more)
      ]

  -- One more entry, under a new text.
  pub at-more : (es : List (List ℕ × X)) (k : List ℕ) (x : X) (q : List ℕ) → bytes_eq q k ≡ false → at (es ++ (k, x) ∷ []) q ≡ at es q
  at-more [] k x q h = rw h
  at-more (e ∷ es) k x q h = ap (λ o. cond (bytes_eq q e.0) (Some e.1) o) (at-more es k x q h)

  pub at-newest : (es : List (List ℕ × X)) (k : List ℕ) (x : X) → at es k ≡ None → at (es ++ (k, x) ∷ []) k ≡ Some x
  at-newest [] k x h = rw (text_itself k)
  at-newest (e ∷ es) k x h =
      let more = at-newest es k x in
      (elim (bytes_eq k e.0) as (λ b. cond b (Some e.1) (at es k) ≡ None → cond b (Some e.1) (at (es ++ (k, x) ∷ []) k) ≡ Some x) [
        | true ↦ λ l. cc
        | false ↦ λ l. more l
      ]) h

  pub distinct-more : (es : List (List ℕ × X)) (k : List ℕ) (x : X) → at es k ≡ None → AreDistinct es → AreDistinct (es ++ (k, x) ∷ [])
  distinct-more [] k x h d = (refl, tt)
  distinct-more (e ∷ es) k x h d =
      let more = distinct-more es k x in
      (elim (bytes_eq k e.0) as (λ b. bytes_eq k e.0 ≡ b → cond b (Some e.1) (at es k) ≡ None → (at (es ++ (k, x) ∷ []) e.0 ≡ None) × AreDistinct (es ++ (k, x) ∷ [])) [
        | true ↦ λ _ l. cc
        | false ↦ λ p l. (at-more es k x e.0 (differs k e.0 p) ∙ d.0, more l d.1)
      ]) refl h

-- The tables agree after the id of an open is noted in both.
pub agrees-opened : (b : Targets) (c : Opens) (t id : List ℕ) (m n : Meaning) (o : Comm) → Agrees b c → at b t ≡ Some m → at c id ≡ None → n.ids ≡ m.ids ++ id ∷ [] → o.target ≡ t
    → Agrees (with_at b t n) (c ++ (id, o) ∷ [])
agrees-opened b c t id m n o h is new ids target =
    record {
      names = distinct-with_at b t n h.names;
      distinct = distinct-more c id o new h.distinct;
      ids = λ name k there.
          (elim (bytes_eq name t) as (λ x. bytes_eq name t ≡ x → k.ids ≡ ids_of name (c ++ (id, o) ∷ [])) [
            | true ↦ λ p.
                let s : at (with_at b t n) t ≡ Some k = subst (λ q. at (with_at b t n) q ≡ Some k) (same_text name t p) there in
                let r : n ≡ k = (let q = at-with_at t b m n is in cc) in
                let e : bytes_eq name o.target ≡ true = rw target p in
                sym (ap (λ (z : Meaning). z.ids) r) ∙ ids
                ∙ ap (λ l. l ++ id ∷ []) (h.ids t m is ∙ ap (λ q. ids_of q c) (sym (same_text name t p)))
                ∙ sym (ids_of-more name c id o ∙ ap (λ x. ids_of name c ++ cond x (id ∷ []) []) e)
            | false ↦ λ p.
                let e : bytes_eq name o.target ≡ false = rw target p in
                h.ids name k (sym (at-with_at-other t b n name p) ∙ there)
                ∙ sym (ids_of-more name c id o ∙ ap (λ x. ids_of name c ++ cond x (id ∷ []) []) e ∙ append-nil (ids_of name c))
          ]) refl;
      named = λ i k there.
          (elim (bytes_eq i id) as (λ x. bytes_eq i id ≡ x → is_some (at (with_at b t n) k.target) ≡ true) [
            | true ↦ λ p.
                let s : at (c ++ (id, o) ∷ []) id ≡ Some k = subst (λ q. at (c ++ (id, o) ∷ []) q ≡ Some k) (same_text i id p) there in
                let r : o ≡ k = (let q = at-newest c id o new in cc) in
                let e : k.target ≡ t = sym (ap (λ (z : Comm). z.target) r) ∙ target in
                rw (e, at-with_at t b m n is)
            | false ↦ λ p. still (k.target) (h.named i k (sym (at-more c id o i p) ∙ there))
          ]) refl;
    }
  where
    append-nil : (xs : List (List ℕ)) → xs ++ [] ≡ xs
    append-nil [] = refl
    append-nil (x ∷ xs) = ap (λ l. x ∷ l) (append-nil xs)

    still : (q : List ℕ) → is_some (at b q) ≡ true → is_some (at (with_at b t n) q) ≡ true
    still q g = (elim (bytes_eq q t) as (λ x. bytes_eq q t ≡ x → is_some (at (with_at b t n) q) ≡ true) [
      | true ↦ λ p. ap (λ z. is_some (at (with_at b t n) z)) (same_text q t p) ∙ ap is_some (at-with_at t b m n is)
      | false ↦ λ p. ap is_some (at-with_at-other t b n q p) ∙ g
    ]) refl

pub some-at : {X : Type 0} (o : Option X) → is_some o ≡ true → (x : X) × (o ≡ Some x)
some-at (Some x) h = (x, refl)
some-at None h = absurd (true≢false (sym h))

-- A target that is written is there, and so are the others.
pub there-written : (b : Targets) (t : List ℕ) (m n : Meaning) (q : List ℕ) → at b t ≡ Some m → is_some (at b q) ≡ true → is_some (at (with_at b t n) q) ≡ true
there-written b t m n q is g =
    (elim (bytes_eq q t) as (λ x. bytes_eq q t ≡ x → is_some (at (with_at b t n) q) ≡ true) [
      | true ↦ λ p. ap (λ z. is_some (at (with_at b t n) z)) (same_text q t p) ∙ ap is_some (at-with_at t b m n is)
      | false ↦ λ p. ap is_some (at-with_at-other t b n q p) ∙ g
    ]) refl

pub agrees-told : (b : Targets) (c : Opens) (t : List ℕ) (m n : Meaning) → Agrees b c → at b t ≡ Some m → n.ids ≡ m.ids → Agrees (with_at b t n) c
agrees-told b c t m n h is ids =
    record {
      names = distinct-with_at b t n h.names;
      distinct = h.distinct;
      ids = λ name k there.
          (elim (bytes_eq name t) as (λ x. bytes_eq name t ≡ x → k.ids ≡ ids_of name c) [
            | true ↦ λ p.
                let s : at (with_at b t n) t ≡ Some k = subst (λ q. at (with_at b t n) q ≡ Some k) (same_text name t p) there in
                let r : n ≡ k = (let q = at-with_at t b m n is in cc) in
                sym (ap (λ (z : Meaning). z.ids) r) ∙ ids ∙ h.ids t m is ∙ ap (λ q. ids_of q c) (sym (same_text name t p))
            | false ↦ λ p. h.ids name k (sym (at-with_at-other t b n name p) ∙ there)
          ]) refl;
      named = λ i k there. there-written b t m n k.target is (h.named i k there);
    }

agrees-put : (b : Targets) (c : Opens) (id : List ℕ) (x v : Comm) → Agrees b c → at c id ≡ Some x → v.target ≡ x.target → Agrees b (with_at c id v)
agrees-put b c id x v h is same =
    record {
      names = h.names;
      distinct = distinct-with_at c id v h.distinct;
      ids = λ name k there. h.ids name k there ∙ sym (ids_of-with_at name id c x v is same);
      named = λ i k there.
          (elim (bytes_eq i id) as (λ q. bytes_eq i id ≡ q → is_some (at b k.target) ≡ true) [
            | true ↦ λ p.
                let s : at (with_at c id v) id ≡ Some k = subst (λ q. at (with_at c id v) q ≡ Some k) (same_text i id p) there in
                let r : v ≡ k = (let q = at-with_at id c x v is in cc) in
                ap (λ z. is_some (at b z)) (sym (ap (λ (z : Comm). z.target) r) ∙ same) ∙ h.named id x is
            | false ↦ λ p. h.named i k (sym (at-with_at-other id c v i p) ∙ there)
          ]) refl;
    }

pub agrees-stated : (b : Targets) (c : Opens) (id : List ℕ) (x : Comm) (v : Option Members) → Agrees b c → at c id ≡ Some x → Agrees b (stated c id x.target v)
agrees-stated b c id x None h is = h
agrees-stated b c id x (Some v) h is = agrees-put b c id x (record { target = x.target; state = Some v }) h is refl

pub agrees-closed : (b : Targets) (c : Opens) (id : List ℕ) (x : Comm) (m n : Meaning) → Agrees b c → at c id ≡ Some x → at b x.target ≡ Some m → n.ids ≡ without_id id m.ids → Agrees (with_at b x.target n) (without c id)
agrees-closed b c id x m n h is there ids =
    record {
      names = distinct-with_at b x.target n h.names;
      distinct = distinct-without c id h.distinct;
      ids = λ name k at_k.
          (elim (bytes_eq name x.target) as (λ z. bytes_eq name x.target ≡ z → k.ids ≡ ids_of name (without c id)) [
            | true ↦ λ p.
                let s : at (with_at b x.target n) x.target ≡ Some k = subst (λ q. at (with_at b x.target n) q ≡ Some k) (same_text name x.target p) at_k in
                let r : n ≡ k = (let q = at-with_at x.target b m n there in cc) in
                sym (ap (λ (z : Meaning). z.ids) r) ∙ ids ∙ ap (without_id id) (h.ids x.target m there ∙ ap (λ q. ids_of q c) (sym (same_text name x.target p)))
                ∙ sym (ids_of-without name id c x is p)
            | false ↦ λ p. h.ids name k (sym (at-with_at-other x.target b n name p) ∙ at_k) ∙ sym (ids_of-without-other name id c x is p)
          ]) refl;
      named = λ i k at_k. there-written b x.target m n k.target there (h.named i k (at-without c id i k h.distinct at_k).0);
    }

pub agrees-unregistered : (b : Targets) (c : Opens) (name : List ℕ) → Agrees b c → Agrees (without b name) (others name c)
agrees-unregistered b c name h =
    record {
      names = distinct-without b name h.names;
      distinct = distinct-others name c h.distinct;
      ids = λ q k at_k. let r = at-without b name q k h.names at_k in h.ids q k r.0 ∙ sym (ids_of-others name q c r.1);
      named = λ i k at_k.
          let r = at-others name c i k h.distinct at_k in
          ap is_some (at-without-other b name k.target (differs name k.target r.1)) ∙ h.named i k r.0;
    }

pub agrees-replaced : (b : Targets) (c : Opens) (name : List ℕ) (was m : Meaning) → Agrees b c → at b name ≡ Some was → m.ids ≡ [] → Agrees (with_at b name m) (others name c)
agrees-replaced b c name was m h is empty =
    record {
      names = distinct-with_at b name m h.names;
      distinct = distinct-others name c h.distinct;
      ids = λ q k at_k.
          (elim (bytes_eq q name) as (λ z. bytes_eq q name ≡ z → k.ids ≡ ids_of q (others name c)) [
            | true ↦ λ p.
                let s : at (with_at b name m) name ≡ Some k = subst (λ z. at (with_at b name m) z ≡ Some k) (same_text q name p) at_k in
                let r : m ≡ k = (let w = at-with_at name b was m is in cc) in
                sym (ap (λ (z : Meaning). z.ids) r) ∙ empty ∙ sym (no_ids name (others name c) (distinct-others name c h.distinct) nobody)
                ∙ ap (λ z. ids_of z (others name c)) (sym (same_text q name p))
            | false ↦ λ p. h.ids q k (sym (at-with_at-other name b m q p) ∙ at_k) ∙ sym (ids_of-others name q c p)
          ]) refl;
      named = λ i k at_k. there-written b name was m k.target is (h.named i k (at-others name c i k h.distinct at_k).0);
    }
  where
    nobody : (q : List ℕ) (x : Comm) → at (others name c) q ≡ Some x → bytes_eq name x.target ≡ false
    nobody q x there = (at-others name c q x h.distinct there).1

pub agrees-registered : (b : Targets) (c : Opens) (name : List ℕ) (m : Meaning) → Agrees b c → at b name ≡ None → m.ids ≡ [] → Agrees (b ++ (name, m) ∷ []) c
agrees-registered b c name m h new empty =
    record {
      names = distinct-more b name m new h.names;
      distinct = h.distinct;
      ids = λ q k at_k.
          (elim (bytes_eq q name) as (λ z. bytes_eq q name ≡ z → k.ids ≡ ids_of q c) [
            | true ↦ λ p.
                let s : at (b ++ (name, m) ∷ []) name ≡ Some k = subst (λ z. at (b ++ (name, m) ∷ []) z ≡ Some k) (same_text q name p) at_k in
                let r : m ≡ k = (let q = at-newest b name m new in cc) in
                sym (ap (λ (z : Meaning). z.ids) r) ∙ empty ∙ sym (no_ids name c h.distinct nobody) ∙ ap (λ z. ids_of z c) (sym (same_text q name p))
            | false ↦ λ p. h.ids q k (sym (at-more b name m q p) ∙ at_k)
          ]) refl;
      named = λ i k at_k. let r = some-at _ (h.named i k at_k) in ap is_some (at-longer b name m k.target r.0 r.1);
    }
  where
    nobody : (q : List ℕ) (x : Comm) → at c q ≡ Some x → bytes_eq name x.target ≡ false
    nobody q x there =
        (elim (bytes_eq name x.target) as (λ z. bytes_eq name x.target ≡ z → z ≡ false) [
          | false ↦ λ _. refl
          | true ↦ λ p. absurd (true≢false (sym (h.named q x there) ∙ ap is_some (ap (at b) (sym (same_text name x.target p)) ∙ new)))
        ]) refl
