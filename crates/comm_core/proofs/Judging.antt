-- What the tests of a call that may ask a target come to.
use Rattle.std.proofs.Common.{◌≡◌, ℕ, true, false, List, Option, None, Some, Result, Ok, Err, IfOk, sym, subst}
use Rattle.std.specs.declared.alloc.AllocError.{AllocError}
use Rattle.comm_value.specs.Tree.{Members}
use Rattle.comm_messages.specs.Content.{Content}
use Rattle.comm_messages.specs.declared.outgoing.Outgoing.{Outgoing}
use Rattle.comm_targets.specs.declared.event.Event.TheVariants as event
use Rattle.comm_core.specs.Machine.{Name, Machine, at, has}
use Rattle.comm_core.specs.Step.{Outcome, AskTarget, Done, holds_widget, is_full, judged, refused_open, stays}
use Rattle.comm_core.specs.Told.{IsTold, asked}
use Rattle.comm_core.specs.Tables.{Targets, Opens, HaveStaged, ended_of, machine_of}
use Rattle.comm_core.specs.Plans.{HasCome, HasVerdict, IsFeasible}
use Rattle.comm_core.specs.declared.comm.Comm.{Comm}
use Rattle.comm_core.specs.declared.call.Call.{Call}
use Rattle.comm_core.specs.declared.evaluation.Evaluation.{Evaluation}
use Rattle.comm_core.specs.declared.call.Call.TheVariants as call
use Rattle.comm_core.specs.declared.reply.Refusal.TheVariants as refusal
use Rattle.comm_core.specs.declared.reply.Reply.{Reply}
use Rattle.comm_core.specs.declared.reply.Reply.TheVariants as reply
use Rattle.comm_core.specs.declared.table_update.TableUpdate.TheVariants.{Nothing}
use Rattle.comm_core.proofs.Asking.{came_done}

module _ (l : ℕ) (m : Machine) where
  -- ---- an open

  module _ (id target : Name) (version : Option Name) (body : Content) where
    pub open_in_use : has m.comms id ≡ true → stays m reply.IdInUse ≡ judged l m (call.Open id target version body)
    open_in_use h = rw h

    pub open_no_target : has m.comms id ≡ false → has m.targets target ≡ false → refused_open m id refusal.NoTarget ≡ judged l m (call.Open id target version body)
    open_no_target h t = rw (h, t)

    pub open_full : has m.comms id ≡ false → has m.targets target ≡ true → is_full l m ≡ true → refused_open m id refusal.TooManyComms ≡ judged l m (call.Open id target version body)
    open_full h t f = rw (h, t, f)

    pub open_asks : has m.comms id ≡ false → has m.targets target ≡ true → is_full l m ≡ false → AskTarget (asked target None (event.Open id version body)) ≡ judged l m (call.Open id target version body)
    open_asks h t f = rw (h, t, f)

  -- ---- a message, a push

  pub msg_none : (id : Name) (body : Content) → at m.comms id ≡ None → stays m reply.NoComm ≡ judged l m (call.Msg id body)
  msg_none id body h = rw h

  pub msg_asks : (id : Name) (body : Content) (c : Comm) → at m.comms id ≡ Some c → AskTarget (asked c.target c.state (event.Msg id body)) ≡ judged l m (call.Msg id body)
  msg_asks id body c h = rw h

  pub push_none : (id : Name) (state : Members) → at m.comms id ≡ None → stays m reply.NoComm ≡ judged l m (call.Push id state)
  push_none id state h = rw h

  pub push_refused : (id : Name) (state : Members) (c : Comm) → at m.comms id ≡ Some c → holds_widget (at m.targets c.target) ≡ false → stays m reply.NotWidget ≡ judged l m (call.Push id state)
  push_refused id state c h w = rw (h, w)

  pub push_asks : (id : Name) (state : Members) (c : Comm) → at m.comms id ≡ Some c → holds_widget (at m.targets c.target) ≡ true → AskTarget (asked c.target c.state (event.Push id state)) ≡ judged l m (call.Push id state)
  push_asks id state c h w = rw (h, w)

-- ---- what came of them

module _ (l : ℕ) (b : Targets) (c : Opens) (k : Call) (none : HaveStaged b (λ _. None)) where
  -- the reply of a test, and a message or none; nothing changes
  pub came_reply : ((bs : Targets) → ended_of bs k ≡ None) → (e : Evaluation) (r : Reply) (out : List Outgoing) → Done r out (machine_of b c) ≡ judged l (machine_of b c) k
      → e.outcome ≡ None → e.reply ≡ r → e.outgoing.items ≡ out → e.table_update ≡ Nothing → HasCome l b c k e.outcome e.reply e.outgoing.items e.table_update b
  came_reply nobody e r out is o s t u = rw (o, s, t, u) (came_done l b c k r out Nothing is none tt (sym (nobody b)))

  -- what a call comes to that asks no target
  came_judged : (e : Evaluation) → HasVerdict l b c k e → IsFeasible b c k e → HasCome l b c k e.outcome e.reply e.outgoing.items e.table_update b
  came_judged e v f =
      subst (λ (o : Option Outcome). HasCome l b c k o e.reply e.outgoing.items e.table_update b) (sym v.0) (came_done l b c k e.reply e.outgoing.items e.table_update v.1 none f.0 f.1)

  pub judged_came : (k' : Call) → k' ≡ k → (r : Result Evaluation AllocError) → IfOk r (λ e. HasVerdict l b c k e) → IfOk r (λ e. IsFeasible b c k e)
      → IfOk r (λ e. HasCome l b c k' e.outcome e.reply e.outgoing.items e.table_update b)
  judged_came k' is (Ok e) v f = subst (λ (x : Call). HasCome l b c x e.outcome e.reply e.outgoing.items e.table_update b) (sym is) (came_judged e v f)
  judged_came k' is (Err x) v f = tt

pub judged_told : (l : ℕ) (b : Targets) (c : Opens) (k : Call) (r : Result Evaluation AllocError) → IfOk r (λ e. HasVerdict l b c k e) → IfOk r (λ e. IsTold e.outcome e.outgoing.items)
judged_told l b c k (Ok e) v = subst (λ (o : Option Outcome). IsTold o e.outgoing.items) (sym v.0) tt
judged_told l b c k (Err x) v = tt
