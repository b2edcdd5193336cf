-- The changes that a script makes are a legal history.
use Rattle.std.proofs.Common.{◌≡◌, ℕ, ℤ, pos, negsuc, ◌+◌, ◌<◌, List, [], ◌∷◌, ◌++◌, Bool, true, false, Option, Some, None, Ok, Err, refl, ap, sym, cond, true≢false}
use Rattle.std.specs.Prelude.{IfOk, nat_lt, option_and_then, codes}
use Rattle.std.proofs.lemmas.Bool.{ltb-true}
use Rattle.json.specs.Json.{Json, Members}
use Rattle.json.specs.Json as json
use Rattle.json.specs.Find.{as_number}
use Rattle.comm_json.specs.Behind.{get_member, whole_of}
use Rattle.comm_value.specs.declared.from_json.Numbers.{Numbers}
use Rattle.comm_targets.specs.Answers.{answer_of, IsFreeAnswer}
use Rattle.comm_targets.specs.Widget.{nothing}
use Rattle.comm_targets.specs.declared.answer.Answer.{Answer}
use Rattle.comm_targets.specs.declared.kind.Kind.{Kind}
use Rattle.comm_targets.specs.declared.kind.Kind.TheVariants.{Echo, Counter, Widget, WidgetEcho, Plain, Opaque, Free}
use Rattle.comm_targets.specs.declared.event.Event.{Event}
use Rattle.comm_targets.specs.declared.event.Event.TheVariants as event
use Rattle.comm_messages.specs.Gives as message
use Rattle.comm_messages.specs.Fields.{below as below_clients, client_of, object_in}
use Rattle.comm_messages.specs.Message.{heading, type_of, object_of, incoming_in, message_from}
use Rattle.comm_messages.specs.Envelope.{Envelope, of_line}
use Rattle.comm_messages.specs.declared.fault.Field.TheVariants as field
use Rattle.comm_messages.specs.declared.incoming.Incoming.{Incoming}
use Rattle.comm_messages.specs.declared.read.MessageType.{MessageType}
use Rattle.comm_messages.specs.declared.fault.MessageFault.TheVariants.{BadClient}
use Rattle.comm_core.specs.declared.limits.Limits.{Limits}
use Rattle.comm_core.specs.declared.call.Call.{Call}
use Rattle.comm_core.specs.declared.call.Call.TheVariants.{Register}
use Rattle.comm_core.specs.declared.target_request.TargetRequest.{TargetRequest}
use Rattle.comm_core.specs.declared.entry.Entry.{Entry}
use Rattle.comm_core.specs.declared.entry.Entry.TheVariants.{Change, End}
use Rattle.comm_core.specs.Machine.{Name, Machine, Registered, at}
use Rattle.comm_core.specs.Step.{Outcome, Stepped, Verdict, Done, AskTarget, Allowed, Gives, asks, judged, request_of, step, stepped}
use Rattle.comm_core.specs.Exact.{exact_outcome, outcome_at, outcome_by}
use Rattle.comm_core.specs.History.{Follows, IsLegal, has_end}
use Rattle.comm_value.specs.Gives.{◌>>=◌}
use Rattle.comm_script.specs.Line.{Reading, of_message}
use Rattle.comm_script.specs.Lines.{is_blank, lines_of}
use Rattle.comm_script.specs.Command.{asked, asked_in, asked_by, asked_by_message, command, asked_from}
use Rattle.comm_script.specs.Stock.{first_of, rest_of}
use Rattle.comm_script.specs.Played.{Standing, says, machine, changed, called, registered, executed, answered, turn, played_from, history_of}
use Rattle.comm_script.specs.declared.stock.StockKind.{StockKind}
use Rattle.comm_script.specs.declared.asked.Request.{Request as Wish}
use Rattle.comm_script.specs.declared.asked.Request.TheVariants as wish

-- ---- the client that a line names is there

message_then : {A B : Type 0} (P : A → Type 0) (Q : B → Type 0) (r : message.Reading A) (f : A → message.Reading B) → IfOk r P → ((x : A) → P x → IfOk (f x) Q) → IfOk (r >>= f) Q
message_then P Q (Ok x) f h more = more x h
message_then P Q (Err e) f h more = tt

message_any : {A B : Type 0} (Q : B → Type 0) (r : message.Reading A) (f : A → message.Reading B) → ((x : A) → IfOk (f x) Q) → IfOk (r >>= f) Q
message_any Q (Ok x) f more = more x
message_any Q (Err e) f more = tt

line_then : {A B : Type 0} (P : A → Type 0) (Q : B → Type 0) (r : message.Reading A) (f : A → Reading B) → IfOk r P → ((x : A) → P x → IfOk (f x) Q) → IfOk (of_message r >>= f) Q
line_then P Q (Ok x) f h more = more x h
line_then P Q (Err e) f h more = tt

line_any : {A B : Type 0} (Q : B → Type 0) (r : Reading A) (f : A → Reading B) → ((x : A) → IfOk (f x) Q) → IfOk (r >>= f) Q
line_any Q (Ok x) f more = more x
line_any Q (Err e) f more = tt

module _ (numbers : Numbers) (clients : ℕ) (some : 0 < clients) where
  abbrev Below : {X : Type 0} → ℕ × X → Type 0
  Below m = m.0 < clients

  below_case : (n : ℕ) (b : Bool) → nat_lt n clients ≡ b → IfOk (cond b (Ok n) (Err BadClient)) (λ n. n < clients)
  below_case n true is = ltb-true n clients is
  below_case n false is = tt

  below_all : (o : Option ℤ) → IfOk (below_clients clients o) (λ n. n < clients)
  below_all None = tt
  below_all (Some (pos n)) = below_case n (nat_lt n clients) refl
  below_all (Some (negsuc n)) = tt

  client_below : (d : Option Json) → IfOk (client_of clients d) (λ n. n < clients)
  client_below None = some
  client_below (Some json.null) = some
  client_below (Some (json.boolean b)) = below_all (option_and_then whole_of (as_number (json.boolean b)))
  client_below (Some (json.number n)) = below_all (option_and_then whole_of (as_number (json.number n)))
  client_below (Some (json.string s)) = below_all (option_and_then whole_of (as_number (json.string s)))
  client_below (Some (json.array ds)) = below_all (option_and_then whole_of (as_number (json.array ds)))
  client_below (Some (json.object ms)) = below_all (option_and_then whole_of (as_number (json.object ms)))

  heading_below : (e : Envelope) → IfOk (heading clients e) (Below {X = MessageType})
  unfolding heading
  heading_below e =
      message_then (λ n. n < clients) (Below {X = MessageType}) (client_of clients e.client) _ (client_below e.client)
      (λ client h. message_any {A = MessageType} (Below {X = MessageType}) (type_of e.header) (λ type. Ok (client, type)) (λ type. h))

  message_below : (e : Envelope) → IfOk (message_from clients numbers e) (Below {X = Incoming})
  unfolding message_from
  message_below e =
      message_then (Below {X = MessageType}) (Below {X = Incoming}) (heading clients e) _ (heading_below e)
      (λ head h. message_any {A = Members} (Below {X = Incoming}) (object_of field.Content e.content) _
      (λ content. message_any {A = Incoming} (Below {X = Incoming}) (incoming_in numbers head.1 e content) (λ incoming. Ok (head.0, incoming)) (λ incoming. h)))

  asked_from_below : (e : Envelope) → IfOk (asked_from numbers clients e) (Below {X = Wish})
  asked_from_below e = line_then (Below {X = Incoming}) (Below {X = Wish}) (message_from clients numbers e) (λ m. Ok (m.0, asked_by_message m.1)) (message_below e) (λ m h. h)

  asked_by_below : (name : Option Json) (line : Members) → IfOk (asked_by numbers name clients line) (Below {X = Wish})
  asked_by_below None line = asked_from_below (of_line line)
  asked_by_below (Some name) line =
      line_then (λ n. n < clients) (Below {X = Wish}) (client_of clients (get_member (codes "client") line)) _ (client_below (get_member (codes "client") line))
      (λ client h. line_any {A = Wish} (Below {X = Wish}) (command numbers name line) (λ asked. Ok (client, asked)) (λ asked. h))

  asked_below : (bytes : List ℕ) → IfOk (asked numbers clients bytes) (Below {X = Wish})
  asked_below bytes = line_any (Below {X = Wish}) (of_message (object_in bytes)) (asked_in numbers clients) (λ line. asked_by_below (get_member (codes "call") line) line)

-- ---- the outcome is one that the target's kind may give

free_given : (e : Event) (a : Answer) → answer_of Free 0 None e ≡ Ok a → IsFreeAnswer e a
free_given (event.Open id version body) a is = let same : nothing ≡ a = cc in ap (λ (b : Answer). b.custom) (sym same)
free_given (event.Launch id state) a is = tt
free_given (event.Msg id body) a is = tt
free_given (event.Push id state) a is = tt

outcome_given : (k : Kind) (notes : ℕ) (q : TargetRequest) (o : Outcome) → answer_of k notes q.state q.event ≡ o → Gives (Some (record { kind = k; notes = notes })) q o
outcome_given Echo notes q (Ok a) is = is
outcome_given Echo notes q (Err f) is = is
outcome_given Counter notes q (Ok a) is = is
outcome_given Counter notes q (Err f) is = is
outcome_given Widget notes q (Ok a) is = is
outcome_given Widget notes q (Err f) is = is
outcome_given WidgetEcho notes q (Ok a) is = is
outcome_given WidgetEcho notes q (Err f) is = is
outcome_given Plain notes q (Ok a) is = is
outcome_given Plain notes q (Err f) is = is
outcome_given Opaque notes q (Ok a) is = is
outcome_given Opaque notes q (Err f) is = is
outcome_given Free notes q (Ok a) is = free_given q.event a is
outcome_given Free notes q (Err f) is = cc

question_allowed : (m : Machine) (q : TargetRequest) (s : Stepped) (r : Option Registered) → at m.targets q.name ≡ r → stepped m (AskTarget q) (outcome_by r q) ≡ Some s → Allowed m (Some q) (outcome_by r q)
question_allowed m q s None there is = cc
question_allowed m q s (Some r) there is = rw there (outcome_given r.kind r.notes q (answer_of r.kind r.notes q.state q.event) refl)

verdict_allowed : (m : Machine) (v : Verdict) (s : Stepped) → stepped m v (outcome_at m (request_of v)) ≡ Some s → Allowed m (request_of v) (outcome_at m (request_of v))
verdict_allowed m (Done r out next) s is = tt
verdict_allowed m (AskTarget q) s is = question_allowed m q s (at m.targets q.name) refl is

exact_allowed : (limit : ℕ) (m : Machine) (c : Call) (s : Stepped) → step limit m c (exact_outcome limit m c) ≡ Some s → Allowed m (asks limit m c) (exact_outcome limit m c)
exact_allowed limit m c s is = verdict_allowed m (judged limit m c) s is

-- ---- one change after another

abbrev pub Grows : Type 0
Grows = (clients limit : ℕ) (es : List Entry) (e : Entry) → IsLegal clients limit es → Follows clients limit es e → IsLegal clients limit (es ++ e ∷ [])

pub record Goes (limits : Limits) (history : List Entry) : Type 0 where
  pub legal : IsLegal limits.clients limits.comms history
  pub going : has_end history ≡ false

going_more : (es : List Entry) (client n : ℕ) (c : Call) (o : Option Outcome) (s : Stepped) → has_end es ≡ false → has_end (es ++ Change client n c o s.reply s.outgoing ∷ []) ≡ false
going_more [] client n c o s h = refl
going_more (End ∷ es) client n c o s h = absurd (true≢false h)
going_more (Change k m d p r out ∷ es) client n c o s h = going_more es client n c o s h

module _ (numbers : Numbers) (limits : Limits) (some : 0 < limits.clients) (grow : Grows) where
  changed_goes : (now : Standing) (client : ℕ) (c : Call) (left : List Registered) (o : Option Stepped) → Goes limits now.history → client < limits.clients
      → step limits.comms (machine limits now) c (exact_outcome limits.comms (machine limits now) c) ≡ o → Goes limits (changed limits now client c left o).after.history
  changed_goes now client c left None h below is = h
  changed_goes now client c left (Some s) h below is = record {
    legal = grow limits.clients limits.comms now.history _ h.legal (h.going, below, refl, exact_allowed limits.comms (machine limits now) c s is, (s, is, refl, refl));
    going = going_more now.history client _ c _ s h.going;
  }

  called_goes : (now : Standing) (client : ℕ) (c : Call) (left : List Registered) → Goes limits now.history → client < limits.clients → Goes limits (called limits now client c left).after.history
  called_goes now client c left h below = changed_goes now client c left (step limits.comms (machine limits now) c (exact_outcome limits.comms (machine limits now) c)) h below refl

  registered_goes : (now : Standing) (number client : ℕ) (kind : StockKind) (name : Name) (r : Option Registered) → Goes limits now.history → client < limits.clients
      → Goes limits (registered limits now number client kind name r).after.history
  registered_goes now number client kind name None h below = h
  registered_goes now number client kind name (Some r) h below = called_goes now client (Register name r.kind r.notes) (rest_of kind now.stock) h below

  executed_goes : (now : Standing) (number client : ℕ) (a : Wish) → Goes limits now.history → client < limits.clients → Goes limits (executed limits now number client a).after.history
  executed_goes now number client (wish.Change c) h below = called_goes now client c now.stock h below
  executed_goes now number client (wish.Register kind name) h below = registered_goes now number client kind name (first_of kind now.stock) h below
  executed_goes now number client (wish.Infos target) h below = h
  executed_goes now number client (wish.State id) h below = h

  answered_goes : (now : Standing) (number : ℕ) (r : Reading (ℕ × Wish)) → Goes limits now.history → IfOk r (λ m. m.0 < limits.clients) → Goes limits (answered limits now number r).after.history
  answered_goes now number (Ok m) h below = executed_goes now number m.0 m.1 h below
  answered_goes now number (Err e) h below = h

  blank_goes : (now : Standing) (number : ℕ) (line : List ℕ) (b : Bool) → Goes limits now.history → Goes limits (cond b (says now []) (answered limits now number (asked numbers limits.clients line))).after.history
  blank_goes now number line true h = h
  blank_goes now number line false h = answered_goes now number (asked numbers limits.clients line) h (asked_below numbers limits.clients some line)

  turn_goes : (now : Standing) (number : ℕ) (line : List ℕ) → Goes limits now.history → Goes limits (turn numbers limits now number line).after.history
  unfolding turn
  turn_goes now number line h = blank_goes now number line (is_blank line) h

  lines_go : (now : Standing) (n : ℕ) (lines : List (List ℕ)) → Goes limits now.history → Goes limits (played_from numbers limits now n lines).after.history
  lines_go now n [] h = h
  lines_go now n (line ∷ lines) h = lines_go (turn numbers limits now (n + 1) line).after (n + 1) lines (turn_goes now (n + 1) line h)

  pub script_legal : (stock : List Registered) (input : List ℕ) → IsLegal limits.clients limits.comms (history_of numbers limits stock input)
  script_legal stock input = (lines_go (record { history = []; stock = stock }) 0 (lines_of input) (record { legal = tt; going = refl })).legal
