-- Which comms are there after a change, and with which state.
use Rattle.std.proofs.Common.{◌≡◌, Bool, true, false, cond, not, [], ◌∷◌, ◌++◌, Option, None, Some, refl, ap, sym, ◌∙◌, subst, true≢false}
use mathlib.Core.Logic.{◌⊎◌, inl, inr}
use Rattle.std.specs.Str.{bytes_eq}
use Rattle.comm_value.specs.Tree.{Members}
use Rattle.comm_core.specs.Machine.{Name, at, with_at, others, AreDistinct}
use Rattle.comm_core.specs.Runs.{Pair}
use Rattle.comm_core.specs.Tables.{Opens}
use Rattle.comm_core.specs.declared.comm.Comm.{Comm}
use Rattle.comm_core.proofs.Keys.{same_text, text_itself, at-with_at, at-with_at-other}
use Rattle.comm_core.proofs.Gone.{none≢some, distinct-without, at-without, at-without-other, at-longer, distinct-others, at-others}
use Rattle.comm_core.proofs.Agreeing.{distinct-with_at, distinct-more, at-more, at-newest}
use Rattle.comm_core.proofs.Stepping.{Change, stays_so, begins, after_close, empties, tells, changed, opening_of, ending_of, given_of, Fits}

-- the newer state, where there is one
abbrev pub newer : Option Members → Option Members → Option Members
newer None s = s
newer (Some v) s = Some v

-- One of them is false.
module _ {P : Type 0} where
  pub apart : (b : Bool) → b ≡ true → b ≡ false → P
  apart b t f = absurd (true≢false (sym t ∙ f))

same_comm : (x y : Comm) → Some x ≡ Some y → x ≡ y
same_comm x y e = cc

abbrev pub some_pair : Name → Name → Option Pair
some_pair a b = Some (a, b)

pair_in : Option Pair → Pair
pair_in None = ([], [])
pair_in (Some p) = p

pub same_pair : (a b c d : Name) → some_pair a b ≡ some_pair c d → (a ≡ c) × (b ≡ d)
unfolding pair_in
same_pair a b c d e = (ap (λ o. (pair_in o).0) e, ap (λ o. (pair_in o).1) e)

-- A comm of another target stays where those of one are taken out.
at-others-kept : (name : Name) (es : Opens) (q : Name) (x : Comm) → at es q ≡ Some x → bytes_eq name x.target ≡ false → at (others name es) q ≡ Some x
at-others-kept name [] q x h n = h
at-others-kept name (e ∷ es) q x h n =
    let more = at-others-kept name es q x in
    (elim (bytes_eq q e.0) as (λ b. bytes_eq q e.0 ≡ b → cond b (Some e.1) (at es q) ≡ Some x → at (others name (e ∷ es)) q ≡ Some x) [
      | true ↦ λ p l.
          let s : bytes_eq name e.1.target ≡ false = ap (λ (z : Comm). bytes_eq name z.target) (same_comm e.1 x l) ∙ n in
          rw (s, p) l
      | false ↦ λ p l.
          elim (bytes_eq name e.1.target) as (λ b. at (cond (not b) (e ∷ others name es) (others name es)) q ≡ Some x) [
            | true ↦ more l n
            | false ↦ rw p (more l n)
          ]
    ]) refl h

pub distinct-changed : (k : Change) (c : Opens) → Fits k c → AreDistinct c → AreDistinct (changed k c)
distinct-changed stays_so c f d = d
distinct-changed (begins id target state) c f d = distinct-more c id _ f d
distinct-changed (after_close id) c f d = distinct-without c id d
distinct-changed (empties name) c f d = distinct-others name c d
distinct-changed (tells id target None) c f d = d
distinct-changed (tells id target (Some s)) c f d = distinct-with_at c id _ d

-- What a comm is after a change that doesn't end it.
told_kept : (c : Opens) (told target : Name) (v : Members) (id : Name) (x : Comm) → at c id ≡ Some x → (y : Comm) → at c told ≡ Some y → y.target ≡ target
    → at (with_at c told (record { target = target; state = Some v })) id ≡ Some (record { target = x.target; state = newer (cond (bytes_eq id told) (Some v) None) x.state })
told_kept c told target v id x h y there same =
    (elim (bytes_eq id told) as (λ b. bytes_eq id told ≡ b → at (with_at c told (record { target = target; state = Some v })) id ≡ Some (record { target = x.target; state = newer (cond b (Some v) None) x.state })) [
      | true ↦ λ p.
          let here : at c told ≡ Some x = subst (λ z. at c z ≡ Some x) (same_text id told p) h in
          let t : target ≡ x.target = sym same ∙ ap (λ (z : Comm). z.target) (same_comm y x (sym there ∙ here)) in
          subst (λ z. at (with_at c told (record { target = target; state = Some v })) z ≡ Some (record { target = x.target; state = Some v })) (sym (same_text id told p))
          (at-with_at told c x _ here ∙ ap (λ z. Some (record { target = z; state = Some v })) t)
      | false ↦ λ p. at-with_at-other told c _ id p ∙ h
    ]) refl

pub kept : (k : Change) (c : Opens) (id : Name) (x : Comm) → at c id ≡ Some x → Fits k c → ending_of k id x.target ≡ false
    → at (changed k c) id ≡ Some (record { target = x.target; state = newer (given_of k id) x.state })
kept stays_so c id x h f e = h
kept (begins opened target state) c id x h f e =
    (elim (bytes_eq id opened) as (λ b. bytes_eq id opened ≡ b → at (changed (begins opened target state) c) id ≡ Some (record { target = x.target; state = newer (cond b state None) x.state })) [
      | true ↦ λ p. absurd (none≢some x (sym f ∙ subst (λ z. at c z ≡ Some x) (same_text id opened p) h))
      | false ↦ λ p. at-longer c opened _ id x h
    ]) refl
kept (after_close closed) c id x h f e = at-without-other c closed id e ∙ h
kept (empties name) c id x h f e = at-others-kept name c id x h e
kept (tells told target None) c id x h f e =
    elim (bytes_eq id told) as (λ b. at c id ≡ Some (record { target = x.target; state = newer (cond b None None) x.state })) [ true ↦ h | false ↦ h ]
kept (tells told target (Some v)) c id x h f e = told_kept c told target v id x h f.0 f.1 f.2

-- A comm that is there after a change was opened by it, or was there and isn't ended by it.
abbrev pub WasThere : Change → Opens → Name → Comm → Type 0
WasThere k c id y = (x : Comm) × (at c id ≡ Some x) × (x.target ≡ y.target) × (ending_of k id y.target ≡ false)

told_came : (c : Opens) (told target : Name) (v : Members) (id : Name) (y : Comm) (x : Comm) → at c told ≡ Some x → x.target ≡ target
    → at (with_at c told (record { target = target; state = Some v })) id ≡ Some y → (z : Comm) × (at c id ≡ Some z) × (z.target ≡ y.target)
told_came c told target v id y x there same h =
    (elim (bytes_eq id told) as (λ b. bytes_eq id told ≡ b → (z : Comm) × (at c id ≡ Some z) × (z.target ≡ y.target)) [
      | true ↦ λ p.
          let is = same_text id told p in
          let now = subst (λ z. at (with_at c told (record { target = target; state = Some v })) z ≡ Some y) is h in
          (x, subst (λ z. at c z ≡ Some x) (sym is) there, same ∙ ap (λ (z : Comm). z.target) (same_comm _ y (sym (at-with_at told c x _ there) ∙ now)))
      | false ↦ λ p. (y, sym (at-with_at-other told c _ id p) ∙ h, refl)
    ]) refl

pub came : (k : Change) (c : Opens) (id : Name) (y : Comm) → AreDistinct c → Fits k c → at (changed k c) id ≡ Some y
    → (opening_of k ≡ Some (id, y.target)) ⊎ WasThere k c id y
came stays_so c id y d f h = inr (y, h, refl, refl)
came (begins opened target state) c id y d f h =
    (elim (bytes_eq id opened) as (λ b. bytes_eq id opened ≡ b → (some_pair opened target ≡ some_pair id y.target) ⊎ WasThere (begins opened target state) c id y) [
      | true ↦ λ p.
          let is = same_text id opened p in
          let now = subst (λ z. at (changed (begins opened target state) c) z ≡ Some y) is h in
          let t : target ≡ y.target = ap (λ (z : Comm). z.target) (same_comm _ y (sym (at-newest c opened _ f) ∙ now)) in
          inl (ap (λ z. some_pair z target) (sym is) ∙ ap (λ z. some_pair id z) t)
      | false ↦ λ p. inr (y, sym (at-more c opened _ id p) ∙ h, refl, refl)
    ]) refl
came (after_close closed) c id y d f h = let was = at-without c closed id y d h in inr (y, was.0, refl, was.1)
came (empties name) c id y d f h = let was = at-others name c id y d h in inr (y, was.0, refl, was.1)
came (tells told target None) c id y d f h = inr (y, h, refl, refl)
came (tells told target (Some v)) c id y d f h = let was = told_came c told target v id y f.0 f.1 f.2 h in inr (was.0, was.1, was.2, refl)

-- A comm that a change opens is there, with the state that it is given.
begun : (c : Opens) (opened target : Name) (state : Option Members) → at c opened ≡ None
    → at (c ++ (opened, record { target = target; state = state }) ∷ []) opened ≡ Some (record { target = target; state = cond (bytes_eq opened opened) state None })
begun c opened target state f = rw (text_itself opened) (at-newest c opened _ f)

pub none_opens : (id target : Name) {P : Type 0} → None ≡ some_pair id target → P
none_opens id target h = cc

pub opened : (k : Change) (c : Opens) (id target : Name) → Fits k c → opening_of k ≡ Some (id, target)
    → at (changed k c) id ≡ Some (record { target = target; state = given_of k id })
opened (begins i t state) c id target f h =
    let same = same_pair i t id target h in
    subst (λ z. at (changed (begins i t state) c) z ≡ Some (record { target = target; state = given_of (begins i t state) z })) same.0
    (begun c i t state f ∙ ap (λ z. Some (record { target = z; state = cond (bytes_eq i i) state None })) same.1)
opened stays_so c id target f h = none_opens id target h
opened (after_close closed) c id target f h = none_opens id target h
opened (empties name) c id target f h = none_opens id target h
opened (tells told t state) c id target f h = none_opens id target h
