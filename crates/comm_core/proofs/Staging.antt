-- What is staged in one target, and in no other.
use Rattle.std.proofs.Common.{◌≡◌, true, false, cond, List, [], ◌∷◌, Option, None, Some, is_some, IsSome, option_map, refl, ap, sym, ◌∙◌, subst, true≢false, inl, inr, ◌⊎◌}
use Rattle.std.specs.Str.{bytes_eq}
use Rattle.comm_targets.specs.Meaning.{Meaning, after_prepare, after_abandon}
use Rattle.comm_targets.specs.declared.event.Event.{Event}
use Rattle.comm_targets.specs.declared.answer.Answer.{Answer}
use Rattle.comm_targets.specs.declared.fault.TargetFault.{TargetFault}
use Rattle.comm_targets.specs.declared.fault.TargetFault.TheVariants.{Memory}
use Rattle.comm_core.specs.Machine.{Name, Registered, at, with_at, AreDistinct}
use Rattle.comm_core.specs.Tables.{Targets, Opens, registered_of, targets_of, machine_of, Agrees, TargetsMean, HaveStaged, unstaged}
use Rattle.comm_core.specs.Machine.{Machine}
use Rattle.comm_core.specs.Plans.{is_memory}
use Rattle.comm_core.proofs.Entries.{lookup-map, none-from_map, set-map}
use Rattle.comm_core.proofs.Keys.{same_text, text_itself, at-with_at, at-with_at-other, with_at-same, with_at-twice}
use Rattle.comm_core.proofs.Names.{is_some-map}
use Rattle.comm_core.proofs.Agreeing.{distinct-with_at}

pub none_of : {X : Type 0} (o : Option X) → is_some o ≡ false → o ≡ None
none_of None h = refl
none_of (Some x) h = absurd (true≢false h)

pub some-is : {X : Type 0} (o : Option X) → is_some o ≡ true → IsSome o
some-is (Some x) h = refl
some-is None h = absurd (true≢false (sym h))

pub not_memory : (f : TargetFault) {P : Type 0} → is_memory f ≡ false → (f ≡ Memory) ⊎ P → P
not_memory f h (inr p) = p
not_memory f h (inl e) = absurd (true≢false (sym (ap is_memory e) ∙ h))

-- ---- the targets without what is staged

pub unstaged-at : (targets : Targets) (t : Name) (m : Meaning) → at targets t ≡ Some m → at (unstaged targets) t ≡ Some (after_abandon m)
unstaged-at targets t m is = lookup-map (λ k. k) after_abandon (bytes_eq t) targets ∙ ap (option_map after_abandon) is

pub unstaged-there : (targets : Targets) (t : Name) → is_some (at (unstaged targets) t) ≡ is_some (at targets t)
unstaged-there targets t = ap is_some (lookup-map (λ k. k) after_abandon (bytes_eq t) targets) ∙ is_some-map after_abandon (at targets t)

targets-unstaged : (targets : Targets) → targets_of (unstaged targets) ≡ targets_of targets
targets-unstaged [] = refl
targets-unstaged (e ∷ es) = ap (λ l. (e.0, registered_of e.1) ∷ l) (targets-unstaged es)

-- what is staged doesn't show in the machine
pub machine-unstaged : (b b' : Targets) (c : Opens) → unstaged b' ≡ unstaged b → machine_of b' c ≡ machine_of b c
machine-unstaged b b' c e =
    let same : targets_of b' ≡ targets_of b = sym (targets-unstaged b') ∙ ap targets_of e ∙ targets-unstaged b in
    let whole : List (Name × Registered) → Machine = λ n. record { targets = n; comms = c } in ap whole same

pub distinct-unstaged : (b : Targets) → AreDistinct (unstaged b) → AreDistinct b
distinct-unstaged [] h = h
distinct-unstaged (e ∷ es) h =
    (none-from_map after_abandon (at es e.0) (sym (lookup-map (λ k. k) after_abandon (bytes_eq e.0) es) ∙ h.0), distinct-unstaged es h.1)

-- targets with nothing staged stay as they are
pub unstaged-same : (b : Targets) → AreDistinct b → HaveStaged b (λ _. None) → b ≡ unstaged b
unstaged-same [] d h = refl
unstaged-same (e ∷ es) d h =
    let one : at (e ∷ es) e.0 ≡ Some e.1 = rw (text_itself e.0) in
    let s : e.1.staged ≡ None = h e.0 e.1 one in
    let same : e.1 ≡ after_abandon e.1 = ap (λ x. record { kind = e.1.kind; notes = e.1.notes; ids = e.1.ids; staged = x }) s in
    let rest : es ≡ unstaged es = unstaged-same es d.1 (λ name m there.
    (elim (bytes_eq name e.0) as (λ x. bytes_eq name e.0 ≡ x → m.staged ≡ None) [
      | true ↦ λ p. let q : at es e.0 ≡ Some m = subst (λ k. at es k ≡ Some m) (same_text name e.0 p) there in let z = d.0 in cc
      | false ↦ λ p. h name m (rw p there)
    ]) refl) in
    ap (λ m. (e.0, m) ∷ es) same ∙ ap (λ l. (e.0, after_abandon e.1) ∷ l) rest

pub targets_mean : (b : Targets) (c : Opens) → Agrees (unstaged b) c → HaveStaged b (λ _. None) → TargetsMean b c
targets_mean b c h none = record { agrees = subst (λ l. Agrees l c) (sym (unstaged-same b (distinct-unstaged b h.names) none)) h; nothing_staged = none }

pub unstaged-twice : (b : Targets) → unstaged (unstaged b) ≡ unstaged b
unstaged-twice [] = refl
unstaged-twice (e ∷ es) = ap (λ l. (e.0, after_abandon e.1) ∷ l) (unstaged-twice es)

pub all_unstaged : (x : Targets) → HaveStaged (unstaged x) (λ _. None)
all_unstaged [] name m there = cc
all_unstaged (y ∷ ys) name m there =
    let more = all_unstaged ys name m in
    (elim (bytes_eq name y.0) as (λ q. cond q (Some (after_abandon y.1)) (at (unstaged ys) name) ≡ Some m → m.staged ≡ None) [
      | true ↦ λ g. let v : after_abandon y.1 ≡ m = cc in ap (λ (j : Meaning). j.staged) (sym v)
      | false ↦ λ g. more g
    ]) there

-- ---- a target that is asked

pub unstaged-staged : (targets : Targets) (t : Name) (m : Meaning) (e : Event) (a : Answer) → at targets t ≡ Some m → unstaged (with_at targets t (after_prepare m e a)) ≡ unstaged targets
unstaged-staged targets t m e a is =
    sym (set-map (λ k. k) after_abandon (bytes_eq t) targets (after_prepare m e a)) ∙ set-map (λ k. k) after_abandon (bytes_eq t) targets m ∙ ap unstaged (with_at-same t targets m is)

back-staged : (targets : Targets) (t : Name) (m : Meaning) (e : Event) (a : Answer) → at targets t ≡ Some m → m.staged ≡ None
    → with_at (with_at targets t (after_prepare m e a)) t (after_abandon (after_prepare m e a)) ≡ targets
back-staged targets t m e a is none =
    with_at-twice t targets (after_prepare m e a) (after_abandon m) ∙ ap (with_at targets t) (let s : after_abandon m ≡ m = ap (λ s. record { kind = m.kind; notes = m.notes; ids = m.ids; staged = s }) (sym none) in s) ∙ with_at-same t targets m is

pub one-staged : (targets : Targets) (t : Name) (m : Meaning) (e : Event) (a : Answer) → at targets t ≡ Some m → HaveStaged targets (λ _. None)
    → HaveStaged (with_at targets t (after_prepare m e a)) (λ name. cond (bytes_eq name t) (Some (record { event = e; answer = a })) None)
one-staged targets t m e a is none name n there =
    (elim (bytes_eq name t) as (λ b. bytes_eq name t ≡ b → n.staged ≡ cond b (Some (record { event = e; answer = a })) None) [
      | true ↦ λ p.
          let s : at (with_at targets t (after_prepare m e a)) t ≡ Some n = subst (λ k. at (with_at targets t (after_prepare m e a)) k ≡ Some n) (same_text name t p) there in
          let q = at-with_at t targets m (after_prepare m e a) is in
          let r : after_prepare m e a ≡ n = cc in ap (λ (k : Meaning). k.staged) (sym r)
      | false ↦ λ p. none name n (sym (at-with_at-other t targets (after_prepare m e a) name p) ∙ there)
    ]) refl

module _ (targets after : Targets) (t : Name) (m : Meaning) (e : Event) (a : Answer) (is : at targets t ≡ Some m) (is_after : after ≡ with_at targets t (after_prepare m e a)) where
  staged-now : at after t ≡ Some (after_prepare m e a)
  staged-now = ap (λ l. at l t) is_after ∙ at-with_at t targets m (after_prepare m e a) is

  pub is_staged : (n : Meaning) → at after t ≡ Some n → IsSome n.staged
  is_staged n there = let q = staged-now in let r : after_prepare m e a ≡ n = cc in subst (λ (k : Meaning). IsSome k.staged) r refl

  pub taken_back : (last : Targets) → m.staged ≡ None → ((n : Meaning) → at after t ≡ Some n → last ≡ with_at after t (after_abandon n)) → last ≡ targets
  taken_back last none back =
      back (after_prepare m e a) staged-now ∙ ap (λ l. with_at l t (after_abandon (after_prepare m e a))) is_after ∙ back-staged targets t m e a is none

-- one stage is dropped, and the others had none
pub abandoned : (b : Targets) (t : Name) (m : Meaning) → AreDistinct (unstaged b) → at b t ≡ Some m → ((name : Name) (n : Meaning) → bytes_eq name t ≡ false → at b name ≡ Some n → n.staged ≡ None)
    → with_at b t (after_abandon m) ≡ unstaged b
abandoned b t m d is others =
    unstaged-same (with_at b t (after_abandon m)) (distinct-with_at b t (after_abandon m) (distinct-unstaged b d)) (λ name n there.
    (elim (bytes_eq name t) as (λ x. bytes_eq name t ≡ x → n.staged ≡ None) [
      | true ↦ λ p.
          let q : at (with_at b t (after_abandon m)) t ≡ Some n = subst (λ k. at (with_at b t (after_abandon m)) k ≡ Some n) (same_text name t p) there in
          let z = at-with_at t b m (after_abandon m) is in
          let v : after_abandon m ≡ n = cc in ap (λ (k : Meaning). k.staged) (sym v)
      | false ↦ λ p. others name n p (sym (at-with_at-other t b (after_abandon m) name p) ∙ there)
    ]) refl)
    ∙ sym (set-map (λ k. k) after_abandon (bytes_eq t) b (after_abandon m)) ∙ set-map (λ k. k) after_abandon (bytes_eq t) b m ∙ ap unstaged (with_at-same t b m is)
