-- From what came of a call to what stands ready, and back to the state before it.
use Rattle.std.proofs.Common.{◌≡◌, ◌<◌, ℕ, Bool, true, false, cond, List, Option, None, Some, option_map, refl, ap, sym, ◌∙◌, subst, true≢false}
use Rattle.comm_messages.specs.declared.outgoing.Outgoing.{Outgoing}
use Rattle.comm_targets.specs.Meaning.{Meaning, IsIdle}
use Rattle.comm_targets.specs.declared.kind.Kind.{Kind}
use Rattle.comm_core.specs.Machine.{Name, Machine, at, has}
use Rattle.comm_core.specs.Step.{Outcome, Stepped, Done, Allowed, asks, judged, request_of, step, stepped}
use Rattle.comm_core.specs.Tables.{Targets, Opens, targets_of, machine_of, Agrees, AnswerIsStaged, HaveStaged, unstaged, emptied, ended_of}
use Rattle.comm_core.specs.Ready.{CoreValue, Readied, IsReady, state, machine, readied}
use Rattle.comm_core.specs.Plans.{IsSound, HasCome, Carried, Suits, planned, registering, staged_by, ended_by}
use Rattle.comm_core.specs.declared.call.Call.{Call}
use Rattle.comm_core.specs.declared.call.Call.TheVariants as call
use Rattle.comm_core.specs.declared.reply.Reply.{Reply}
use Rattle.comm_core.specs.declared.table_update.TableUpdate.{TableUpdate}
use Rattle.comm_core.specs.declared.table_update.TableUpdate.TheVariants.{Register, Replace}
use Rattle.comm_core.proofs.Names.{has_target}
use Rattle.comm_core.proofs.Asking.{nobody_ends, nothing_staged}
use Rattle.comm_core.proofs.Staging.{none_of, unstaged-there, machine-unstaged, unstaged-same, unstaged-twice, distinct-unstaged, all_unstaged}

-- ---- the tables stay sound

pub sound-settled : (b b' : Targets) (r r' : ℕ) (c c' : Opens) (s s' : ℕ) (t : Bool) → IsSound b r c s t → b' ≡ b → c' ≡ c → t ≡ true → IsSound b' r' c' s' t
sound-settled b b' r r' c c' s s' t h eb ec et =
    record {
      agrees = rw (eb, ec) h.agrees;
      nothing_staged = λ e. rw eb (h.nothing_staged e);
      room = λ e. absurd (true≢false (sym et ∙ e));
      space = λ e. absurd (true≢false (sym et ∙ e));
    }

pub sound_begun : (b b' : Targets) (r r' : ℕ) (c c' : Opens) (s s' : ℕ) (t : Bool) → IsSound b r c s t → unstaged b' ≡ unstaged b → c' ≡ c → 0 < r' → 0 < s' → IsSound b' r' c' s' false
sound_begun b b' r r' c c' s s' t h eb ec room space =
    record {
      agrees = rw (eb, ec) h.agrees;
      nothing_staged = λ f. absurd (true≢false (sym f));
      room = λ _. room;
      space = λ _. space;
    }

pub sound_after : (b : Targets) (r : ℕ) (c : Opens) (s : ℕ) → Agrees (unstaged b) c → HaveStaged b (λ _. None) → IsSound b r c s true
sound_after b r c s h none = record { agrees = h; nothing_staged = λ _. none; room = λ f. absurd (true≢false f); space = λ f. absurd (true≢false f) }

pub sound_unstaged : (b b2 : Targets) (r : ℕ) (c : Opens) (s : ℕ) → Agrees (unstaged b) c → b2 ≡ unstaged b → IsSound b2 r c s true
sound_unstaged b b2 r c s h e = sound_after b2 r c s (rw (e, unstaged-twice b) h) (rw e (all_unstaged b))

-- ---- what stands ready

-- a call that hands no target in
pub call_ready : (l : ℕ) (b b' : Targets) (c : Opens) (k : Call) (o : Option Outcome) (r : Reply) (out : List Outgoing) (table_update : TableUpdate)
    → HasCome l b c k o r out table_update b' → IsReady (state l b' c false) (readied k o r out table_update None)
call_ready l b b' c k o r out table_update h =
    let same : machine_of b c ≡ machine_of b' c = sym (machine-unstaged b b' c h.unstaged_is) in
    record {
      prepared = refl;
      allowed = subst (λ (m : Machine). Allowed m (asks l m k) o) same h.allowed;
      staged = subst (λ (m : Machine). AnswerIsStaged b' (asks l m k) o) same h.staged;
      step_is = subst (λ (m : Machine). step l m k o ≡ Some (record { reply = r; outgoing = out; next = planned m table_update o })) same h.step_is;
      stages = h.stages;
      suits = h.suits;
      ended = h.ended;
    }

-- the state before a call, once what it staged is dropped
pub undone_is : (S : CoreValue) (l : ℕ) (b b1 b' : Targets) (r : ℕ) (c c' : Opens) (s : ℕ) (z : Bool) → state l b c z ≡ S → S.settled ≡ true → IsSound b r c s z → b1 ≡ b → c' ≡ c → unstaged b' ≡ unstaged b1 → state l (unstaged b') c' true ≡ S
undone_is S l b b1 b' r c c' s z es settled h e1 ec eb =
    let t : z ≡ true = ap (λ (k : CoreValue). k.settled) es ∙ settled in
    let b3 : unstaged b' ≡ b = eb ∙ ap unstaged e1 ∙ sym (unstaged-same b (distinct-unstaged b h.agrees.names) (h.nothing_staged t)) in
    ap (λ x. state l x c' true) b3 ∙ ap (λ x. state l b x true) ec ∙ ap (λ x. state l b c x) (sym t) ∙ es

-- what stands ready, by its parts
pub ready_of : (S : CoreValue) (D : Readied) (l : ℕ) (b : Targets) (c : Opens) (z : Bool) (k : Call) (o : Option Outcome) (r : Reply) (out : List Outgoing) (table_update : TableUpdate) (m : Option Meaning)
    → state l b c z ≡ S → readied k o r out table_update m ≡ D → IsReady S D → IsReady (state l b c false) (readied k o r out table_update m)
ready_of S D l b c z k o r out table_update m es ed R =
    let e : z ≡ false = ap (λ (x : CoreValue). x.settled) es ∙ R.prepared in
    let s1 : state l b c false ≡ S = ap (λ x. state l b c x) (sym e) ∙ es in
    subst (λ x. IsReady (state l b c false) x) (sym ed) (subst (λ x. IsReady x D) (sym s1) R)

-- ---- what `begin` says

pub came_machine : (S : CoreValue) (l : ℕ) (b b1 b' : Targets) (c c' : Opens) (z : Bool) → state l b c z ≡ S → b1 ≡ b → c' ≡ c → unstaged b' ≡ unstaged b1 → machine_of b' c' ≡ machine S
came_machine S l b b1 b' c c' z es e1 ec eb = machine-unstaged b1 b' c' eb ∙ ap (λ x. machine_of x c') e1 ∙ ap (machine_of b) ec ∙ ap machine es

-- what stands ready, at the state before: it has the same limit and machine
module _ (S : CoreValue) (l : ℕ) (b : Targets) (c : Opens) (D : Readied) (R : IsReady (state l b c false) D) (limit : l ≡ S.limit) (same : machine_of b c ≡ machine S) where
  pub ready_allowed : Allowed (machine S) (asks S.limit (machine S) D.call) D.outcome
  ready_allowed = subst (λ m. Allowed m (asks S.limit m D.call) D.outcome) same (subst (λ n. Allowed (machine_of b c) (asks n (machine_of b c) D.call) D.outcome) limit R.allowed)

  pub ready_staged : AnswerIsStaged b (asks S.limit (machine S) D.call) D.outcome
  ready_staged = subst (λ m. AnswerIsStaged b (asks S.limit m D.call) D.outcome) same (subst (λ n. AnswerIsStaged b (asks n (machine_of b c) D.call) D.outcome) limit R.staged)

  pub ready_step : (s : Stepped) × (step S.limit (machine S) D.call D.outcome ≡ Some s) × (D.reply ≡ s.reply) × (D.outgoing ≡ s.outgoing)
  ready_step =
      let s : Stepped = record { reply = D.reply; outgoing = D.outgoing; next = planned (machine_of b c) D.table_update D.outcome } in
      (s, subst (λ m. step S.limit m D.call D.outcome ≡ Some s) same (subst (λ n. step n (machine_of b c) D.call D.outcome ≡ Some s) limit R.step_is), refl, refl)

-- ---- a register

module _ (l : ℕ) (b : Targets) (c : Opens) (name : Name) (k : Kind) (n : ℕ) (m : Meaning) (none : HaveStaged b (λ _. None)) (kind : m.kind ≡ k) (notes : m.notes ≡ n) (idle : IsIdle m) where
  suited : (taken : Bool) → has (targets_of b) name ≡ taken → Suits (unstaged b) c (Some m) (cond taken (Replace name k n) (Register name k n)) None
  suited true e = (m, (refl, unstaged-there b name ∙ sym (has_target b name) ∙ e, idle), kind, notes)
  suited false e = (m, (refl, none_of (at (unstaged b) name) (unstaged-there b name ∙ sym (has_target b name) ∙ e), idle), kind, notes)

  ends : (taken : Bool) → has (targets_of b) name ≡ taken → ended_by b (cond taken (Replace name k n) (Register name k n)) ≡ option_map emptied (at b name)
  ends true e = refl
  ends false e = sym (nobody_ends b name e)

  pub register_ready : (r : Reply) (out : List Outgoing) (table_update : TableUpdate) → ((limit : ℕ) → Done r out (planned (machine_of b c) table_update None) ≡ judged limit (machine_of b c) (call.Register name k n))
      → table_update ≡ registering b name k n → IsReady (state l b c false) (readied (call.Register name k n) None r out table_update (Some m))
  register_ready r out table_update e ep =
      record {
        prepared = refl;
        allowed = subst (λ v. Allowed (machine_of b c) (request_of v) None) (e l) tt;
        staged = none;
        step_is = ap (λ v. stepped (machine_of b c) v None) (sym (e l));
        stages = λ name m there. none name m there ∙ sym (nothing_staged table_update name);
        suits = subst (λ p. Suits (unstaged b) c (Some m) p None) (sym ep) (suited (has (targets_of b) name) refl);
        ended = ap (ended_by b) ep ∙ ends (has (targets_of b) name) refl;
      }

-- ---- what `finish` says

module _ (S : CoreValue) (D : Readied) (l : ℕ) (b : Targets) (c : Opens) (z : Bool) (k : Call) (o : Option Outcome) (r : Reply) (out : List Outgoing) (table_update : TableUpdate) (m : Option Meaning)
    (es : state l b c z ≡ S) (ed : readied k o r out table_update m ≡ D) (R : IsReady S D) where
  parts : IsReady (state l b c false) (readied k o r out table_update m)
  parts = ready_of S D l b c z k o r out table_update m es ed R

  whole_state : state l b c false ≡ S
  whole_state = ap (λ x. state l b c x) (sym (ap (λ (x : CoreValue). x.settled) es ∙ R.prepared)) ∙ es

  pub finished_step : (b2 : Targets) (c2 : Opens) → Carried b2 c2 (planned (machine_of b c) table_update o)
      → step S.limit (machine S) D.call D.outcome ≡ Some (record { reply = r; outgoing = out; next = machine_of b2 c2 })
  finished_step b2 c2 carried =
      let one : step l (machine_of b c) k o ≡ Some (record { reply = r; outgoing = out; next = machine_of b2 c2 }) =
      parts.step_is ∙ ap (λ x. Some (record { reply = r; outgoing = out; next = x })) (sym carried.2) in
      subst (λ (x : Readied). step S.limit (machine S) x.call x.outcome ≡ Some (record { reply = r; outgoing = out; next = machine_of b2 c2 })) ed
      (subst (λ (x : CoreValue). step x.limit (machine x) k o ≡ Some (record { reply = r; outgoing = out; next = machine_of b2 c2 })) whole_state one)

  pub finished_ended : (ended : Option Meaning) → ended ≡ ended_by b table_update → ended ≡ ended_of S.targets D.call
  finished_ended ended e = e ∙ parts.ended ∙ ap (λ (x : CoreValue). ended_of x.targets k) whole_state ∙ ap (λ (x : Readied). ended_of S.targets x.call) ed

  pub staged_now : HaveStaged b (staged_by table_update o)
  staged_now = parts.stages

  pub suits_now : Suits (unstaged b) c m table_update o
  suits_now = parts.suits
