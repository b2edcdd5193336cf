-- The targets of a settled manager, as they are ended.
use Rattle.std.proofs.Common.{◌≡◌, ◌<◌, ℕ, true, false, List, [], ◌∷◌, ◌++◌, length, None, Some, refl, subst, arith}
use Rattle.std.specs.Str.{bytes_eq}
use Rattle.comm_targets.specs.Meaning.{Meaning}
use Rattle.comm_core.specs.Machine.{at, ids_of, AreDistinct}
use Rattle.comm_core.specs.Tables.{Targets, Opens, TargetsMean, HaveStaged}
use Rattle.comm_core.proofs.Keys.{same_text, text_itself}

-- each target has the ids of its comms, and nothing staged
abbrev pub AllAgree : Targets → Opens → Type 0
AllAgree [] comms = Unit {0}
AllAgree (e ∷ es) comms = (e.1.ids ≡ ids_of e.0 comms) × (e.1.staged ≡ None) × AllAgree es comms

each : (b : Targets) (c : Opens) → AreDistinct b → ((name : List ℕ) (m : Meaning) → at b name ≡ Some m → m.ids ≡ ids_of name c) → HaveStaged b (λ _. None) → AllAgree b c
each [] c d ids none = tt
each (e ∷ es) c d ids none =
    let one : at (e ∷ es) e.0 ≡ Some e.1 = rw (text_itself e.0) in
    let later : (name : List ℕ) (m : Meaning) → at es name ≡ Some m → at (e ∷ es) name ≡ Some m = λ name m there.
    (elim (bytes_eq name e.0) as (λ x. bytes_eq name e.0 ≡ x → at (e ∷ es) name ≡ Some m) [
      | true ↦ λ p. let q : at es e.0 ≡ Some m = subst (λ k. at es k ≡ Some m) (same_text name e.0 p) there in let z = d.0 in cc
      | false ↦ λ p. rw p there
    ]) refl in
    (ids e.0 e.1 one, none e.0 e.1 one, each es c d.1 (λ name m there. ids name m (later name m there)) (λ name m there. none name m (later name m there)))

pub all_agree : (b : Targets) (c : Opens) → TargetsMean b c → AllAgree b c
all_agree b c h = each b c h.agrees.names h.agrees.ids h.nothing_staged

pub all_but : (b : Targets) (n : List ℕ) (m : Meaning) (c : Opens) → AllAgree (b ++ (n, m) ∷ []) c → AllAgree b c × (m.ids ≡ ids_of n c) × (m.staged ≡ None)
all_but [] n m c h = (tt, h.0, h.1)
all_but (e ∷ es) n m c h = let r = all_but es n m c h.2 in ((h.0, h.1, r.0), r.1, r.2)

pub shorter : (b : Targets) (n : List ℕ) (m : Meaning) → length b < length (b ++ (n, m) ∷ [])
shorter [] n m = omega arith
shorter (e ∷ es) n m = let more = shorter es n m in omega arith
