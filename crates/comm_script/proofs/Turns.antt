-- One change more.
use Rattle.std.proofs.Common.{◌≡◌, ◌≢◌, ℕ, ◌+◌, ◌<◌, List, [], ◌∷◌, ◌++◌, length, get_or, set, Bool, true, false, Option, Some, None, refl, sym, ap, subst, ◌∙◌, inl, inr, length-append, append-nil, get_or-set_other, get_or-set_same}
use Rattle.std.specs.Prelude.{◌==◌}
use Rattle.std.proofs.lemmas.Bool.{ne_eqb, eqb-false, true_from_ne_false}
use Rattle.std.proofs.lemmas.Bool.Decides.{eqb_tells}
use Rattle.std.proofs.lemmas.List.Elements.{filter-append}
use Rattle.comm_messages.specs.declared.outgoing.Parent.TheVariants as parent
use Rattle.comm_targets.specs.declared.kind.Kind.{Kind}
use Rattle.comm_targets.specs.declared.kind.Kind.TheVariants as kind
use Rattle.comm_core.specs.declared.limits.Limits.{Limits}
use Rattle.comm_core.specs.declared.call.Call.{Call}
use Rattle.comm_core.specs.declared.call.Call.TheVariants.{Register, Open, Msg, Close, Unregister, Launch, Push, Send, HangUp}
use Rattle.comm_core.specs.Machine.{Machine, Registered, Name, has}
use Rattle.comm_core.specs.Step.{Outcome, Stepped, step, asks, Allowed}
use Rattle.comm_core.specs.Exact.{exact_outcome, is_exact, is_free, registers_free}
use Rattle.comm_core.specs.declared.target_request.TargetRequest.{TargetRequest}
use Rattle.comm_core.specs.History.{mine, applied, next_of, replay, replay_from, is_of}
use Rattle.comm_core.specs.declared.entry.Entry.{Entry}
use Rattle.comm_core.specs.declared.entry.Entry.TheVariants.{Change}
use Rattle.comm_core.specs.Ready as core
use Rattle.comm_script.specs.Words.{reply_line, out_lines}
use Rattle.comm_script.specs.Stock.{first_of, rest_of, has_kind}
use Rattle.comm_script.specs.Played.{Standing, Turn, machine, called, changed}
use Rattle.comm_script.specs.Session.{Stands}
use Rattle.comm_script.specs.declared.session.Session.{Session}
use Rattle.comm_script.specs.declared.stock.StockKind.{StockKind}
use Rattle.comm_script.specs.declared.stock.StockKind.TheVariants as stock_kind

-- ---- the step of the definition

abbrev pub NoChoice : Type 0
NoChoice = (limit : ℕ) (m : Machine) (c : Call) (o : Option Outcome) → is_exact m ≡ true → Allowed m (asks limit m c) o → o ≡ exact_outcome limit m c

abbrev pub KeepsExact : Type 0
KeepsExact = (limit : ℕ) (m : Machine) (c : Call) (o : Option Outcome) (s : Stepped) → is_exact m ≡ true → registers_free c ≡ false → step limit m c o ≡ Some s → is_exact s.next ≡ true

pub handless_free : (c : Call) → core.HandsNothingIn c → registers_free c ≡ false
handless_free (Register name kind notes) h = absurd h
handless_free (Open id target version body) h = refl
handless_free (Msg id body) h = refl
handless_free (Close id) h = refl
handless_free (Unregister name) h = refl
handless_free (Launch uuid target state) h = refl
handless_free (Push id state) h = refl
handless_free (Send id body) h = refl
handless_free (HangUp id) h = refl

-- a manager's step, as that of the definition
pub step_of : {A : Type 0} (limits : Limits) (now : Standing) (s : Session A) (c : Call) (o : Option Outcome) (S : Stepped) → NoChoice → Stands limits now s → Allowed (core.machine s.core) (asks s.core.limit (core.machine s.core) c) o
    → step s.core.limit (core.machine s.core) c o ≡ Some S → step limits.comms (machine limits now) c (exact_outcome limits.comms (machine limits now) c) ≡ Some S
step_of limits now s c o S law stands allowed is =
    let exact : step s.core.limit (core.machine s.core) c (exact_outcome s.core.limit (core.machine s.core) c) ≡ Some S =
    subst (λ (o : Option Outcome). step s.core.limit (core.machine s.core) c o ≡ Some S) (law s.core.limit (core.machine s.core) c o stands.exact allowed) is in
    subst (λ (m : Machine). step limits.comms m c (exact_outcome limits.comms m c) ≡ Some S) stands.machine
    (subst (λ (l : ℕ). step l (core.machine s.core) c (exact_outcome l (core.machine s.core) c) ≡ Some S) stands.limit exact)

-- ---- the history with one change more

replay_more : (limit : ℕ) (m : Machine) (es : List Entry) (e : Entry) → replay_from limit m (es ++ e ∷ []) ≡ applied limit (replay_from limit m es) e
replay_more limit m [] e = refl
replay_more limit m (x ∷ es) e = replay_more limit (applied limit m x) es e

abbrev pub entry : Limits → Standing → ℕ → Call → Stepped → Entry
entry limits now client c S = Change client (length (mine now.history client) + 1) c (exact_outcome limits.comms (machine limits now) c) S.reply S.outgoing

next_machine : (limits : Limits) (now : Standing) (client : ℕ) (c : Call) (S : Stepped) → step limits.comms (machine limits now) c (exact_outcome limits.comms (machine limits now) c) ≡ Some S
    → replay limits.comms (now.history ++ entry limits now client c S ∷ []) ≡ S.next
next_machine limits now client c S is = replay_more limits.comms _ now.history (entry limits now client c S) ∙ ap (next_of (machine limits now)) is

own_made : (limits : Limits) (now : Standing) (client : ℕ) (c : Call) (S : Stepped) (made : List ℕ) → client < length made → get_or made client 0 ≡ length (mine now.history client)
    → get_or (set made client (get_or made client 0 + 1)) client 0 ≡ length (mine (now.history ++ entry limits now client c S ∷ []) client)
own_made limits now client c S made h is =
    let same : (client == client) ≡ true = true_from_ne_false _ (λ e. eqb-false client client e refl) in
    rw (filter-append (is_of client) now.history (entry limits now client c S ∷ []), length-append, same, get_or-set_same, is) refl

other_made : (limits : Limits) (now : Standing) (client k : ℕ) (c : Call) (S : Stepped) (made : List ℕ) → k ≢ client → get_or made k 0 ≡ length (mine now.history k)
    → get_or (set made client (get_or made client 0 + 1)) k 0 ≡ length (mine (now.history ++ entry limits now client c S ∷ []) k)
other_made limits now client k c S made apart is =
    let other : (client == k) ≡ false = ne_eqb client k (λ e. apart (sym e)) in
    rw (filter-append (is_of k) now.history (entry limits now client c S ∷ []), other, append-nil, get_or-set_other, is) refl

pub stands_grown : {A : Type 0} (limits : Limits) (now : Standing) (client : ℕ) (c : Call) (S : Stepped) (s new : Session A) (stock : List Registered)
    → Stands limits now s → step limits.comms (machine limits now) c (exact_outcome limits.comms (machine limits now) c) ≡ Some S → client < length s.made → client < 4
    → new.limits ≡ s.limits → new.core.limit ≡ s.core.limit → core.machine new.core ≡ S.next → is_exact S.next ≡ true → new.stock.targets ≡ stock → new.changes ≡ s.changes + 1
    → new.made ≡ set s.made client (get_or s.made client 0 + 1) → Stands limits (record { history = now.history ++ entry limits now client c S ∷ []; stock = stock }) new
stands_grown limits now client c S s new stock stands is h below same limit next exact shelf changes made = record {
  same = same ∙ stands.same;
  limit = limit ∙ stands.limit;
  machine = next ∙ sym (next_machine limits now client c S is);
  exact = ap is_exact next ∙ exact;
  stock = shelf;
  changes = rw (length-append, changes, stands.changes) refl;
  made = λ k few. rw made (elim (eqb_tells k client) [
    | inl e ↦ rw e.1 (own_made limits now client c S s.made h (stands.made client below))
    | inr e ↦ other_made limits now client k c S s.made e.1 (stands.made k few)
  ]);
}

called_is : (limits : Limits) (now : Standing) (client : ℕ) (c : Call) (left : List Registered) (S : Stepped)
    → step limits.comms (machine limits now) c (exact_outcome limits.comms (machine limits now) c) ≡ Some S
    → called limits now client c left ≡ changed limits now client c left (Some S)
called_is limits now client c left S is = ap (changed limits now client c left) is

pub stands_called : {A : Type 0} (limits : Limits) (now : Standing) (client : ℕ) (c : Call) (left : List Registered) (S : Stepped) (s new : Session A)
    → Stands limits now s → step limits.comms (machine limits now) c (exact_outcome limits.comms (machine limits now) c) ≡ Some S → client < length s.made → client < 4
    → new.limits ≡ s.limits → new.core.limit ≡ s.core.limit → core.machine new.core ≡ S.next → is_exact S.next ≡ true → new.stock.targets ≡ left → new.changes ≡ s.changes + 1
    → new.made ≡ set s.made client (get_or s.made client 0 + 1) → Stands limits (called limits now client c left).after new
stands_called limits now client c left S s new stands is h below same limit next exact shelf changes made =
    subst (λ (t : Turn). Stands limits t.after new) (sym (called_is limits now client c left S is))
    (stands_grown limits now client c S s new (left) stands is h below same limit next exact shelf changes made)

-- what is said of a change
pub said : {A : Type 0} (limits : Limits) (now : Standing) (client : ℕ) (c : Call) (left : List Registered) (S : Stepped) (s : Session A) (old new : List ℕ) → Stands limits now s
    → step limits.comms (machine limits now) c (exact_outcome limits.comms (machine limits now) c) ≡ Some S → client < 4
    → new ≡ old ++ (reply_line (s.changes + 1) S.reply ++ out_lines S.outgoing (parent.Call client (get_or s.made client 0 + 1))) → new ≡ old ++ (called limits now client c left).text
said limits now client c left S s old new stands is below p =
    p ∙ ap (λ n. old ++ (reply_line (n + 1) S.reply ++ out_lines S.outgoing (parent.Call client (get_or s.made client 0 + 1)))) stands.changes
    ∙ ap (λ n. old ++ (reply_line (length now.history + 1) S.reply ++ out_lines S.outgoing (parent.Call client (n + 1)))) (stands.made client below)
    ∙ ap (λ (t : Turn). old ++ t.text) (sym (called_is limits now client c left S is))

-- ---- registers

asks_nothing : (limit : ℕ) (m : Machine) (name : Name) (k : Kind) (notes : ℕ) → asks limit m (Register name k notes) ≡ None
asks_nothing limit m name k notes = cases limit m name k notes (has m.targets name) refl
  where
    cases : (limit : ℕ) (m : Machine) (name : Name) (k : Kind) (notes : ℕ) (b : Bool) → has m.targets name ≡ b → asks limit m (Register name k notes) ≡ None
    cases limit m name k notes true h = rw h refl
    cases limit m name k notes false h = rw h refl

kind_fits : (w : StockKind) (k : Kind) → has_kind w k ≡ true → is_free k ≡ false
kind_fits w kind.Echo h = refl
kind_fits w kind.Counter h = refl
kind_fits w kind.Widget h = refl
kind_fits w kind.WidgetEcho h = refl
kind_fits w kind.Plain h = refl
kind_fits w kind.Opaque h = refl
kind_fits stock_kind.Echo kind.Free h = cc
kind_fits stock_kind.Counter kind.Free h = cc
kind_fits stock_kind.Widget kind.Free h = cc
kind_fits stock_kind.WidgetEcho kind.Free h = cc

first_case : (w : StockKind) (x : Registered) (rs : List Registered) (r : Registered) → (first_of w rs ≡ Some r → is_free r.kind ≡ false) → (b : Bool) → has_kind w x.kind ≡ b → first_of w (x ∷ rs) ≡ Some r → is_free r.kind ≡ false
first_case w x rs r more true h is = let found : Some x ≡ Some r = rw h at is in let same : x ≡ r = cc in subst (λ (q : Registered). is_free q.kind ≡ false) same (kind_fits w x.kind h)
first_case w x rs r more false h is = more (rw h at is)

-- no target of the stock that has the kind is free
pub first_fits : (w : StockKind) (rs : List Registered) (r : Registered) → first_of w rs ≡ Some r → is_free r.kind ≡ false
first_fits w [] r is = cc
first_fits w (x ∷ rs) r is = first_case w x rs r (λ h. first_fits w rs r h) (has_kind w x.kind) refl is

rest_case : (w : StockKind) (x : Registered) (rs : List Registered) → (first_of w rs ≡ None → rest_of w rs ≡ rs) → (b : Bool) → has_kind w x.kind ≡ b → first_of w (x ∷ rs) ≡ None → rest_of w (x ∷ rs) ≡ x ∷ rs
rest_case w x rs more true h is = let never : Some x ≡ None = rw h at is in cc
rest_case w x rs more false h is = rw h (ap (λ l. x ∷ l) (more (rw h at is)))

-- a stock without the kind stays
pub rest_without : (w : StockKind) (rs : List Registered) → first_of w rs ≡ None → rest_of w rs ≡ rs
rest_without w [] is = refl
rest_without w (x ∷ rs) is = rest_case w x rs (λ h. rest_without w rs h) (has_kind w x.kind) refl is

pub unasked : (limit : ℕ) (m : Machine) (name : Name) (k : Kind) (notes : ℕ) → Allowed m (asks limit m (Register name k notes)) None
unasked limit m name k notes = subst (λ (q : Option TargetRequest). Allowed m q None) (sym (asks_nothing limit m name k notes)) tt
