-- After a legal history no name and no id stands twice, and each comm's target is there.
use Rattle.std.proofs.Common.{◌≡◌, ℕ, true, false, cond, not, List, [], ◌∷◌, ◌++◌, Option, None, Some, is_some, refl, ap, sym, ◌∙◌, subst}
use Rattle.std.specs.Str.{bytes_eq}
use Rattle.comm_value.specs.Tree.{Members}
use Rattle.comm_targets.specs.declared.kind.Kind.{Kind}
use Rattle.comm_targets.specs.declared.event.Event.{Event}
use Rattle.comm_targets.specs.declared.event.Event.TheVariants as event
use Rattle.comm_targets.specs.declared.answer.Answer.{Answer}
use Rattle.comm_core.specs.Machine.{Name, Registered, Machine, IsConsistent, AreDistinct, empty, at, has, with_at}
use Rattle.comm_core.specs.Step.{Outcome, judged, with_target, with_another, without_target, with_comm, without_comm, with_answer, noted, stated, is_full, holds_widget, comm_id}
use Rattle.comm_core.specs.History.{applied, replay_from, replay, IsLegal}
use Rattle.comm_core.specs.declared.entry.Entry.{Entry}
use Rattle.comm_core.specs.declared.entry.Entry.TheVariants.{Change, End}
use Rattle.comm_core.specs.declared.comm.Comm.{Comm}
use Rattle.comm_core.specs.declared.call.Call.{Call}
use Rattle.comm_core.specs.declared.call.Call.TheVariants.{Register, Open, Msg, Close, Unregister, Launch, Push, Send, HangUp}
use Rattle.comm_core.specs.declared.reply.Reply.{Reply}
use Rattle.comm_core.proofs.Keys.{same_text, at-with_at, at-with_at-other}
use Rattle.comm_core.proofs.Gone.{none≢some, distinct-without, at-without, at-without-other, at-longer, distinct-others, at-others}
use Rattle.comm_core.proofs.Agreeing.{differs, some-at, distinct-with_at, distinct-more, at-more, at-newest}
use Rattle.comm_core.proofs.Staging.{none_of}
use Rattle.comm_core.proofs.Running.{Steps, Runs, legal_runs}
use Rattle.comm_core.proofs.Stepping.{Comes, comes, comes_if, comes_of, comes_told, none_stepped}

same_comm : (x y : Comm) → Some x ≡ Some y → x ≡ y
same_comm x y e = cc

module _ {X : Type 0} where
  has-with_at : (es : List (Name × X)) (t : Name) (w : X) (q : Name) → has (with_at es t w) q ≡ has es q
  has-with_at [] t w q = refl
  has-with_at (e ∷ es) t w q =
      let more = has-with_at es t w q in
      elim (bytes_eq t e.0) as (λ b. has (cond b ((e.0, w) ∷ es) (e ∷ with_at es t w)) q ≡ has (e ∷ es) q) [
        | true ↦ elim (bytes_eq q e.0) as (λ b. is_some (cond b (Some w) (at es q)) ≡ is_some (cond b (Some e.1) (at es q))) [ true ↦ refl | false ↦ refl ]
        | false ↦ elim (bytes_eq q e.0) as (λ b. is_some (cond b (Some e.1) (at (with_at es t w) q)) ≡ is_some (cond b (Some e.1) (at es q))) [ true ↦ refl | false ↦ more ]
      ]

  has-longer : (es : List (Name × X)) (k : Name) (w : X) (q : Name) → has es q ≡ true → has (es ++ (k, w) ∷ []) q ≡ true
  has-longer es k w q h = let s = some-at (at es q) h in ap is_some (at-longer es k w q s.0 s.1)

-- ---- each way in which a machine changes

module _ (m : Machine) (is : IsConsistent m) where
  after_registering : (name : Name) (kind : Kind) (notes : ℕ) → has m.targets name ≡ false → IsConsistent (with_target m name kind notes)
  after_registering name kind notes new =
      record {
        names = distinct-more m.targets name _ (none_of (at m.targets name) new) is.names;
        ids = is.ids;
        registered = λ id c there. has-longer m.targets name _ c.target (is.registered id c there);
      }

  after_replacing : (name : Name) (kind : Kind) (notes : ℕ) → IsConsistent (with_another m name kind notes)
  after_replacing name kind notes =
      record {
        names = distinct-with_at m.targets name _ is.names;
        ids = distinct-others name m.comms is.ids;
        registered = λ id c there. has-with_at m.targets name _ c.target ∙ is.registered id c (at-others name m.comms id c is.ids there).0;
      }

  after_unregistering : (name : Name) → IsConsistent (without_target m name)
  after_unregistering name =
      record {
        names = distinct-without m.targets name is.names;
        ids = distinct-others name m.comms is.ids;
        registered = λ id c there.
            let r = at-others name m.comms id c is.ids there in
            ap is_some (at-without-other m.targets name c.target (differs name c.target r.1)) ∙ is.registered id c r.0;
      }

  after_opening : (id target : Name) (state : Option Members) → has m.comms id ≡ false → has m.targets target ≡ true → IsConsistent (with_comm m id target state)
  after_opening id target state new here =
      let v : Comm = record { target = target; state = state } in
      let none : at m.comms id ≡ None = none_of (at m.comms id) new in
      record {
        names = is.names;
        ids = distinct-more m.comms id v none is.ids;
        registered = λ i c there.
            (elim (bytes_eq i id) as (λ b. bytes_eq i id ≡ b → has m.targets c.target ≡ true) [
              | true ↦ λ p.
                  let now : at (m.comms ++ (id, v) ∷ []) id ≡ Some c = subst (λ q. at (m.comms ++ (id, v) ∷ []) q ≡ Some c) (same_text i id p) there in
                  ap (λ (z : Comm). has m.targets z.target) (sym (same_comm v c (sym (at-newest m.comms id v none) ∙ now))) ∙ here
              | false ↦ λ p. is.registered i c (sym (at-more m.comms id v i p) ∙ there)
            ]) refl;
      }

  after_closing : (id : Name) → IsConsistent (without_comm m id)
  after_closing id =
      record {
        names = is.names;
        ids = distinct-without m.comms id is.ids;
        registered = λ i c there. is.registered i c (at-without m.comms id i c is.ids there).0;
      }

  noted_distinct : (target : Name) (e : Event) (t : Option Registered) → AreDistinct (noted m.targets target e t)
  noted_distinct target e None = is.names
  noted_distinct target e (Some r) = distinct-with_at m.targets target _ is.names

  noted_has : (target : Name) (e : Event) (t : Option Registered) (q : Name) → has (noted m.targets target e t) q ≡ has m.targets q
  noted_has target e None q = refl
  noted_has target e (Some r) q = has-with_at m.targets target _ q

  after_stating : (n : List (Name × Registered)) (id : Name) (x : Comm) (s : Option Members) → at m.comms id ≡ Some x → AreDistinct n
      → ((q : Name) → has n q ≡ has m.targets q) → IsConsistent (record { targets = n; comms = stated m.comms id x.target s })
  after_stating n id x None there distinct same =
      record { names = distinct; ids = is.ids; registered = λ i c at_i. same c.target ∙ is.registered i c at_i }
  after_stating n id x (Some s) there distinct same =
      let v : Comm = record { target = x.target; state = Some s } in
      record {
        names = distinct;
        ids = distinct-with_at m.comms id v is.ids;
        registered = λ i c at_i. same c.target
            ∙ (elim (bytes_eq i id) as (λ b. bytes_eq i id ≡ b → has m.targets c.target ≡ true) [
              | true ↦ λ p.
                  let now : at (with_at m.comms id v) id ≡ Some c = subst (λ q. at (with_at m.comms id v) q ≡ Some c) (same_text i id p) at_i in
                  ap (λ (z : Comm). has m.targets z.target) (sym (same_comm v c (sym (at-with_at id m.comms x v there) ∙ now))) ∙ is.registered id x there
              | false ↦ λ p. is.registered i c (sym (at-with_at-other id m.comms v i p) ∙ at_i)
            ]) refl;
      }

  after_telling : (id : Name) (x : Comm) (e : Event) (a : Answer) → at m.comms id ≡ Some x → IsConsistent (with_answer m id x.target e a)
  after_telling id x e a there =
      after_stating (noted m.targets x.target e (at m.targets x.target)) id x a.state there (noted_distinct x.target e (at m.targets x.target)) (noted_has x.target e (at m.targets x.target))

  -- ---- each call

  abbrev Stays : Option Outcome → Reply → Machine → Type 0
  Stays o r n = IsConsistent n

  there_if : (target : Name) → not (has m.targets target) ≡ false → has m.targets target ≡ true
  there_if target h = (elim (has m.targets target) as (λ b. not b ≡ false → b ≡ true) [ true ↦ λ _. refl | false ↦ λ k. sym k ]) h

  pub judged_consistent : (limit : ℕ) (call : Call) → Comes Stays m (judged limit m call)
  judged_consistent limit (Register name kind notes) = comes_if Stays m (has m.targets name) _ _ (λ _. after_replacing name kind notes) (λ new. after_registering name kind notes new)
  judged_consistent limit (Open id target version body) =
      comes_if Stays m (has m.comms id) _ _ (λ _. is)
      (λ new. comes_if Stays m (not (has m.targets target)) _ _ (λ _. is)
      (λ here. comes_if Stays m (is_full limit m) _ _ (λ _. is)
      (λ _. ((λ a g. after_opening id target a.state new (there_if target here)), (λ f s e. comes_told Stays m f _ s is e)))))
  judged_consistent limit (Msg id body) =
      comes_of Stays m (at m.comms id) _ is (λ x there. ((λ a g. after_telling id x (event.Msg id body) a there), (λ f s e. comes_told Stays m f _ s is e)))
  judged_consistent limit (Close id) = comes_of Stays m (at m.comms id) _ is (λ x there. after_closing id)
  judged_consistent limit (Unregister name) = comes_if Stays m (has m.targets name) _ _ (λ _. after_unregistering name) (λ _. is)
  judged_consistent limit (Launch uuid target state) =
      comes_if Stays m (has m.comms (comm_id uuid)) _ _ (λ _. is)
      (λ new. comes_if Stays m (not (has m.targets target)) _ _ (λ _. is)
      (λ here. comes_if Stays m (not (holds_widget (at m.targets target))) _ _ (λ _. is)
      (λ _. comes_if Stays m (is_full limit m) _ _ (λ _. is)
      (λ _. ((λ a g. after_opening (comm_id uuid) target a.state new (there_if target here)), (λ f s e. none_stepped s e))))))
  judged_consistent limit (Push id state) =
      comes_of Stays m (at m.comms id) _ is
      (λ x there. comes_if Stays m (holds_widget (at m.targets x.target)) _ _
      (λ _. ((λ a g. after_telling id x (event.Push id state) a there), (λ f s e. none_stepped s e))) (λ _. is))
  judged_consistent limit (Send id body) = comes_of Stays m (at m.comms id) _ is (λ x there. is)
  judged_consistent limit (HangUp id) = comes_of Stays m (at m.comms id) _ is (λ x there. after_closing id)

-- ---- each run

module _ (limit : ℕ) where
  empty_consistent : IsConsistent empty
  empty_consistent = record { names = tt; ids = tt; registered = λ id c there. absurd (none≢some c there) }

  entry_consistent : (m : Machine) (e : Entry) → Steps limit m e → IsConsistent m → IsConsistent (applied limit m e)
  entry_consistent m End s is = empty_consistent
  entry_consistent m (Change client number call outcome reply outgoing) s is =
      comes (λ o r n. IsConsistent n) m (judged limit m call) outcome _ (judged_consistent m is limit call) s.0 s.1

  run_consistent : (m : Machine) (es : List Entry) → Runs limit m es → IsConsistent m → IsConsistent (replay_from limit m es)
  run_consistent m [] r is = is
  run_consistent m (e ∷ es) r is = run_consistent (applied limit m e) es r.1 (entry_consistent m e r.0 is)

pub replay_consistent : (clients comms : ℕ) (h : List Entry) → IsLegal clients comms h → IsConsistent (replay comms h)
replay_consistent clients comms h p = run_consistent comms empty h (legal_runs comms clients h p) (empty_consistent comms)
