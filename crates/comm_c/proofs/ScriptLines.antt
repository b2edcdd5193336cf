-- A line, and any other call, does what the definitions of scripts say, over a stock that has enough targets.
use Rattle.std.proofs.Common.{◌≡◌, ℕ, ◌+◌, ◌<◌, List, [], ◌∷◌, ◌++◌, length, get_or, Bool, true, false, Option, None, Some, Ok, Err, refl, sym, ap, subst, ◌∙◌, inl, inr, append-nil, length-append, length-set, arith}
use Rattle.std.specs.Prelude.{◌==◌, if◌then◌else◌, pos}
use Rattle.std.proofs.lemmas.Bool.Decides.{eqb_tells}
use Rattle.comm_messages.specs.Fields.{below}
use Rattle.comm_messages.specs.Gives as message
use Rattle.comm_messages.specs.declared.outgoing.Outgoing.TheVariants as out
use Rattle.comm_messages.specs.declared.outgoing.Parent.TheVariants as parent
use Rattle.comm_targets.specs.declared.kind.Kind.{Kind}
use Rattle.comm_targets.specs.declared.kind.Kind.TheVariants as kind
use Rattle.comm_core.specs.declared.call.Call.{Call}
use Rattle.comm_core.specs.declared.call.Call.TheVariants.{Register, Open, Msg, Close, Unregister, Launch, Push, Send, HangUp}
use Rattle.comm_core.specs.Exact.{exact_outcome, is_exact, is_free, registers_free}
use Rattle.comm_core.specs.History.{mine, next_of, replay}
use Rattle.comm_core.specs.Machine.{Machine, Registered, Name}
use Rattle.comm_core.specs.Ready.{HandsNothingIn, machine}
use Rattle.comm_core.specs.Reads.{infos, state_of}
use Rattle.comm_core.specs.Step.{Outcome, Stepped, step, asks, Allowed}
use Rattle.comm_core.specs.declared.entry.Entry.{Entry}
use Rattle.comm_core.specs.declared.entry.Entry.TheVariants.{Change}
use Rattle.comm_script.specs.Command.{asked}
use Rattle.comm_script.specs.Line.{Reading}
use Rattle.comm_script.specs.Lines.{lines_of, is_blank}
use Rattle.comm_value.specs.declared.from_json.Numbers.{Numbers}
use Rattle.comm_script.specs.Played.{Standing, Turn, says, called, changed, registered, executed, answered, turn, played_from, played}
use Rattle.comm_script.specs.Stock.{first_of, has_kind, rest_of}
use Rattle.comm_script.specs.Words.{bad_line, reply_line, out_line, out_lines, state_line}
use Rattle.comm_script.specs.declared.asked.LineFault.TheVariants.{Message}
use Rattle.comm_script.specs.declared.asked.Request.{Request}
use Rattle.comm_script.specs.declared.asked.Request.TheVariants as asks_for
use Rattle.comm_script.specs.declared.stock.StockKind.{StockKind}
use Rattle.comm_script.specs.declared.stock.StockKind.TheVariants as stock_kind
use Rattle.comm_c.specs.CountedCore.{Changes, Registers, fresh_counted_core}
use Rattle.comm_c.specs.ManagerState.{ManagerState, limits_of, new_manager}
use Rattle.comm_c.specs.CallResult.{result_text}
use Rattle.comm_c.specs.Codes.{kind_numbered}
use Rattle.comm_c.specs.Exports.{RegistersKind}
use Rattle.comm_c.specs.Handles.{AnswersIf, AnswersReading, Executes, GivesOnly, Handles, RegistersBy, closes_of, target_kind}
use Rattle.comm_c.specs.Inputs.{line_asked, line_input}
use Rattle.comm_c.specs.Scripts.{AsksFor, CallRequest, CallsPlayScripts, HasEnough, LinesPlayScripts, PlayedCall, PlayedLine, PlaysCall, RegistersNew, Runs, RunsCalls, call_turn, lines_in, new_target_turn, one_if, register_turn, registered_by, registered_by_call, registered_by_calls, registered_by_reading, registered_by_request, registered_if, requests_in, said_from, said_in, said_to, stock_of, turn_if}
use Rattle.comm_c.specs.declared.call_result.CallResult.{CallResult}
use Rattle.comm_c.specs.declared.call_result.CallResult.TheVariants as call_result
use Rattle.comm_c.specs.declared.counted_core.CountedCore.{CountedCore}
use Rattle.comm_c.specs.declared.input.Input.{Input}
use Rattle.comm_c.proofs.Counting.{Grows, own_made, other_made, zeros}
use Rattle.comm_c.proofs.EnoughTargets.{at_most_sum, first_is_fresh, less, rest_has_enough, stock_has_enough}

-- it stands so
pub record StandsAt (numbers : Numbers) (comms : ℕ) (now : Standing) (d : CountedCore) : Type 0 where
  pub limit : d.core.limit ≡ comms
  pub machine_is : machine d.core ≡ replay comms now.history
  pub exact : is_exact (machine d.core) ≡ true
  pub changes : d.changes ≡ length now.history
  pub made : (c : ℕ) → c < 4 → get_or d.made c 0 ≡ length (mine now.history c)
  pub few : length d.made ≡ 4
  pub numbers_are : d.numbers ≡ numbers

-- it stands as after the turn, its result has the turn's text, and the stock has enough for what more is registered
abbrev pub Turned : Numbers → ℕ → (StockKind → ℕ) → Turn → CountedCore → CallResult → Type 0
Turned numbers comms more t after result = (result_text result ≡ t.text) × (StandsAt numbers comms t.after after × HasEnough t.after.stock more)

-- ---- the laws of the core

abbrev pub NoChoice : Type 0
NoChoice = (limit : ℕ) (m : Machine) (c : Call) (o : Option Outcome) → is_exact m ≡ true → Allowed m (asks limit m c) o → o ≡ exact_outcome limit m c

abbrev pub KeepsExact : Type 0
KeepsExact = (limit : ℕ) (m : Machine) (c : Call) (o : Option Outcome) (s : Stepped) → is_exact m ≡ true → registers_free c ≡ false
    → step limit m c o ≡ Some s → is_exact s.next ≡ true

handless_free : (c : Call) → HandsNothingIn c → registers_free c ≡ false
handless_free (Register name kind notes) h = absurd h
handless_free (Open id target version body) h = refl
handless_free (Msg id body) h = refl
handless_free (Close id) h = refl
handless_free (Unregister name) h = refl
handless_free (Launch uuid target state) h = refl
handless_free (Push id state) h = refl
handless_free (Send id body) h = refl
handless_free (HangUp id) h = refl

-- ---- a change

abbrev entry : ℕ → Standing → ℕ → Call → Stepped → Entry
entry comms now client c S =
    Change client (length (mine now.history client) + 1) c (exact_outcome comms (replay comms now.history) c) S.reply S.outgoing

-- the step of the definition
exact_step : NoChoice → (numbers : Numbers) (comms : ℕ) (now : Standing) (d : CountedCore) (client : ℕ) (c : Call) (after : CountedCore) (result : CallResult)
    → StandsAt numbers comms now d → (ch : Changes d client c after result)
    → step comms (replay comms now.history) c (exact_outcome comms (replay comms now.history) c)
    ≡ Some (record { reply = ch.reply; outgoing = ch.outgoing; next = machine after.core })
exact_step law numbers comms now d client c after result stands ch =
    let S : Stepped = record { reply = ch.reply; outgoing = ch.outgoing; next = machine after.core } in
    let exact : step d.core.limit (machine d.core) c (exact_outcome d.core.limit (machine d.core) c) ≡ Some S =
    subst (λ (o : Option Outcome). step d.core.limit (machine d.core) c o ≡ Some S) (law d.core.limit (machine d.core) c ch.outcome stands.exact ch.allowed) ch.step_is in
    subst (λ (m : Machine). step comms m c (exact_outcome comms m c) ≡ Some S) stands.machine_is
    (subst (λ (l : ℕ). step l (machine d.core) c (exact_outcome l (machine d.core) c) ≡ Some S) stands.limit exact)

grown : NoChoice → KeepsExact → Grows → (numbers : Numbers) (comms : ℕ) (now : Standing) (d : CountedCore) (client : ℕ) (c : Call) (after : CountedCore) (result : CallResult)
    (stock : List Registered) → StandsAt numbers comms now d → registers_free c ≡ false → (ch : Changes d client c after result)
    → StandsAt numbers comms (record { history = now.history ++ entry comms now client c (record { reply = ch.reply; outgoing = ch.outgoing; next = machine after.core }) ∷ []; stock = stock }) after
grown law keeps grows numbers comms now d client c after result stock stands kept ch =
    let S : Stepped = record { reply = ch.reply; outgoing = ch.outgoing; next = machine after.core } in
    let is = exact_step law numbers comms now d client c after result stands ch in
    let below : client < length d.made = let f : length d.made ≡ 4 = stands.few in let b : client < 4 = ch.below in omega (arith, f, b) in
    record {
      limit = ch.limit ∙ stands.limit;
      machine_is = sym (grows comms now.history (entry comms now client c S) ∙ ap (next_of (replay comms now.history)) is);
      exact = keeps d.core.limit (machine d.core) c ch.outcome S stands.exact kept ch.step_is;
      changes = ch.changes ∙ ap (λ (n : ℕ). n + 1) stands.changes ∙ sym (length-append now.history (entry comms now client c S ∷ []));
      made = λ k few. subst (λ (m : List ℕ). get_or m k 0 ≡ length (mine (now.history ++ entry comms now client c S ∷ []) k)) (sym ch.made) (elim (eqb_tells k client) [
        | inl e ↦ rw e.1 (own_made now.history client (length (mine now.history client) + 1) c (exact_outcome comms (replay comms now.history) c) S d.made below (stands.made client ch.below))
        | inr e ↦ other_made now.history client k (length (mine now.history client) + 1) c (exact_outcome comms (replay comms now.history) c) S d.made e.1 (stands.made k few)
      ]);
      few = ap (λ (m : List ℕ). length m) ch.made ∙ length-set d.made client (get_or d.made client 0 + 1) ∙ stands.few;
      numbers_are = ch.numbers ∙ stands.numbers_are;
    }

change_turn : NoChoice → KeepsExact → Grows → (numbers : Numbers) (comms : ℕ) (more : StockKind → ℕ) (now : Standing) (d : CountedCore) (client : ℕ) (c : Call) (after : CountedCore)
    (result : CallResult) (stock : List Registered) → StandsAt numbers comms now d → registers_free c ≡ false → Changes d client c after result → HasEnough stock more
    → Turned numbers comms more (called (limits_of comms) now client c stock) after result
change_turn law keeps grows numbers comms more now d client c after result stock stands kept ch enough =
    let S : Stepped = record { reply = ch.reply; outgoing = ch.outgoing; next = machine after.core } in
    let is : called (limits_of comms) now client c stock ≡ changed (limits_of comms) now client c stock (Some S) =
    ap (changed (limits_of comms) now client c stock) (exact_step law numbers comms now d client c after result stands ch) in
    let text : result_text result ≡ reply_line (length now.history + 1) S.reply ++ out_lines S.outgoing (parent.Call client (length (mine now.history client) + 1)) =
    ap result_text ch.result_is ∙ ap (λ (n : ℕ). reply_line (n + 1) S.reply ++ out_lines S.outgoing (parent.Call client (get_or d.made client 0 + 1))) stands.changes
    ∙ ap (λ (n : ℕ). reply_line (length now.history + 1) S.reply ++ out_lines S.outgoing (parent.Call client (n + 1))) (stands.made client ch.below) in
    subst (λ (t : Turn). Turned numbers comms more t after result) (sym is) (text, (grown law keeps grows numbers comms now d client c after result stock stands kept ch, enough))

-- ---- what is asked for

gives_turn : (numbers : Numbers) (comms : ℕ) (more : StockKind → ℕ) (now : Standing) (d after : CountedCore) (given : CallResult) (wanted : List ℕ) (result : CallResult) → StandsAt numbers comms now d
    → result_text given ≡ wanted → HasEnough now.stock more → GivesOnly d given after result → Turned numbers comms more (says now wanted) after result
gives_turn numbers comms more now d after given wanted result stands is enough s =
    (ap result_text s.1 ∙ is, (subst (λ (e : CountedCore). StandsAt numbers comms now e) (sym s.0) stands, enough))

kind_exact : (w : StockKind) → is_free (target_kind w) ≡ false
kind_exact stock_kind.Echo = refl
kind_exact stock_kind.Counter = refl
kind_exact stock_kind.Widget = refl
kind_exact stock_kind.WidgetEcho = refl

stock_turn : NoChoice → KeepsExact → Grows → (numbers : Numbers) (comms : ℕ) (more : StockKind → ℕ) (now : Standing) (d : CountedCore) (number client : ℕ) (w : StockKind) (name : Name)
    (after : CountedCore) (result : CallResult) → StandsAt numbers comms now d → HasEnough now.stock (λ v. one_if (has_kind v (target_kind w)) + more v)
    → Registers d client (target_kind w) name after result
    → Turned numbers comms more (registered (limits_of comms) now number client w name (first_of w now.stock)) after result
stock_turn law keeps grows numbers comms more now d number client w name after result stands enough ch =
    rw (first_is_fresh w now.stock more enough)
    (change_turn law keeps grows numbers comms more now d client (Register name (target_kind w) 0) after result (rest_of w now.stock) stands (kind_exact w) ch
    (rest_has_enough w now.stock more enough))

without_request : (a : Request) (more : StockKind → ℕ) (stock : List Registered) → HasEnough stock (λ w. registered_by_request w a + more w)
    → HasEnough stock more
without_request a more stock enough =
    less stock (λ w. registered_by_request w a + more w) more (λ w. at_most_sum (registered_by_request w a) (more w)) enough

request_turn : NoChoice → KeepsExact → Grows → (numbers : Numbers) (comms : ℕ) (more : StockKind → ℕ) (now : Standing) (d : CountedCore) (number client : ℕ) (a : Request)
    (after : CountedCore) (result : CallResult) → StandsAt numbers comms now d → HasEnough now.stock (λ w. registered_by_request w a + more w) → Executes d client a after result
    → Turned numbers comms more (executed (limits_of comms) now number client a) after result
request_turn law keeps grows numbers comms more now d number client (asks_for.Change c) after result stands enough o =
    change_turn law keeps grows numbers comms more now d client c after result now.stock stands (handless_free c o.0) o.1
    (without_request (asks_for.Change c) more now.stock enough)
request_turn law keeps grows numbers comms more now d number client (asks_for.Register kind name) after result stands enough o =
    stock_turn law keeps grows numbers comms more now d number client kind name after result stands enough o
request_turn law keeps grows numbers comms more now d number client (asks_for.Infos target) after result stands enough o =
    gives_turn numbers comms more now d after (call_result.Infos client d.changes (out.InfoReply (infos (machine d.core) target) ∷ [])) _ result stands
    (append-nil (out_line (out.InfoReply (infos (machine d.core) target)) (parent.Read client d.changes))
    ∙ (ap (λ (m : Machine). out_line (out.InfoReply (infos m target)) (parent.Read client d.changes)) stands.machine_is
    ∙ ap (λ (n : ℕ). out_line (out.InfoReply (infos (replay comms now.history) target)) (parent.Read client n)) stands.changes))
    (without_request (asks_for.Infos target) more now.stock enough) o
request_turn law keeps grows numbers comms more now d number client (asks_for.State id) after result stands enough o =
    gives_turn numbers comms more now d after (call_result.State d.changes (state_of (machine d.core) id)) _ result stands
    (ap (λ (m : Machine). state_line d.changes (state_of m id)) stands.machine_is ∙ ap (λ (n : ℕ). state_line n (state_of (replay comms now.history) id)) stands.changes)
    (without_request (asks_for.State id) more now.stock enough) o

reading_turn : NoChoice → KeepsExact → Grows → (numbers : Numbers) (comms : ℕ) (more : StockKind → ℕ) (now : Standing) (d : CountedCore) (number : ℕ) (opening : Option Name)
    (r : Reading (ℕ × Request)) (after : CountedCore) (result : CallResult) → StandsAt numbers comms now d → HasEnough now.stock (λ w. registered_by_reading w r + more w)
    → AnswersReading d number opening r after result → Turned numbers comms more (answered (limits_of comms) now number r) after result
reading_turn law keeps grows numbers comms more now d number opening (Ok m) after result stands enough a =
    request_turn law keeps grows numbers comms more now d number m.0 m.1 after result stands enough a
reading_turn law keeps grows numbers comms more now d number opening (Err fault) after result stands enough a =
    gives_turn numbers comms more now d after (call_result.Bad number fault (closes_of (machine d.core) opening)) (bad_line number fault) result stands refl
    (less now.stock (λ w. registered_by_reading w (Err fault) + more w) more (λ w. at_most_sum (registered_by_reading w (Err fault)) (more w)) enough) a

nothing_turn : (numbers : Numbers) (comms : ℕ) (more : StockKind → ℕ) (now : Standing) (d after : CountedCore) (result : CallResult) → StandsAt numbers comms now d → HasEnough now.stock (λ w. 0 + more w)
    → GivesOnly d call_result.Nothing after result → Turned numbers comms more (says now []) after result
nothing_turn numbers comms more now d after result stands enough s =
    gives_turn numbers comms more now d after call_result.Nothing [] result stands refl (less now.stock (λ w. 0 + more w) more (λ w. at_most_sum 0 (more w)) enough) s

-- ---- a line

-- how many targets of the kind a line registers, by whether it is blank
abbrev registered_line : Numbers → Bool → List ℕ → StockKind → ℕ
registered_line numbers b line w = if b then 0 else registered_by_reading w (asked numbers 4 line)

line_turn : NoChoice → KeepsExact → Grows → (numbers : Numbers) (comms : ℕ) (more : StockKind → ℕ) (now : Standing) (d : CountedCore) (number : ℕ) (line : List ℕ) (after : CountedCore)
    (result : CallResult) → StandsAt numbers comms now d → (b : Bool) → HasEnough now.stock (λ w. registered_line numbers b line w + more w)
    → AnswersIf d number None (line_asked b d.numbers line) after result
    → Turned numbers comms more (if b then says now [] else answered (limits_of comms) now number (asked numbers 4 line)) after result
line_turn law keeps grows numbers comms more now d number line after result stands true enough t = nothing_turn numbers comms more now d after result stands enough t
line_turn law keeps grows numbers comms more now d number line after result stands false enough t =
    reading_turn law keeps grows numbers comms more now d number None (asked numbers 4 line) after result stands enough
    (subst (λ (n : Numbers). AnswersReading d number None (asked n 4 line) after result) stands.numbers_are t)

turned : NoChoice → KeepsExact → Grows → (numbers : Numbers) (comms : ℕ) (more : StockKind → ℕ) (now : Standing) (d : CountedCore) (number : ℕ) (line : List ℕ) (after : CountedCore)
    (result : CallResult) → StandsAt numbers comms now d → HasEnough now.stock (λ w. registered_line numbers (is_blank line) line w + more w)
    → Handles d number (line_input d.numbers line) after result → Turned numbers comms more (turn numbers (limits_of comms) now number line) after result
unfolding Handles turn
turned law keeps grows numbers comms more now d number line after result stands enough t =
    line_turn law keeps grows numbers comms more now d number line after result stands (is_blank line) enough t

-- ---- lines one after another

run_turns : NoChoice → KeepsExact → Grows → (numbers : Numbers) (comms : ℕ) (now : Standing) (k : ManagerState) (ps : List PlayedLine) (n : ℕ) → StandsAt numbers comms now k.counted_core
    → HasEnough now.stock (λ w. registered_by numbers w (lines_in ps)) → k.number ≡ n → Runs k ps → said_in ps ≡ (played_from numbers (limits_of comms) now n (lines_in ps)).text
run_turns law keeps grows numbers comms now k [] n stands enough is runs = refl
run_turns law keeps grows numbers comms now k (p ∷ ps) n stands enough is runs =
    let first : Turn = turn numbers (limits_of comms) now (n + 1) p.0 in
    let more : StockKind → ℕ = λ w. registered_by numbers w (lines_in ps) in
    let t : Turned numbers comms more first p.1.counted_core p.1.call_result =
    subst (λ (i : ℕ). Turned numbers comms more (turn numbers (limits_of comms) now (i + 1) p.0) p.1.counted_core p.1.call_result) is
    (turned law keeps grows numbers comms more now k.counted_core (k.number + 1) p.0 p.1.counted_core p.1.call_result stands enough runs.0.1) in
    ap (λ (x : List ℕ). x ++ said_in ps) t.0
    ∙ ap (λ (x : List ℕ). first.text ++ x) (run_turns law keeps grows numbers comms first.after p.1 ps (n + 1) t.1.0 t.1.1 (runs.0.0 ∙ ap (λ (i : ℕ). i + 1) is) runs.1)

-- a new manager stands at the beginning
stands_new : (numbers : Numbers) (comms : ℕ) (stock : List Registered) → StandsAt numbers comms (record { history = []; stock = stock }) (fresh_counted_core comms numbers)
stands_new numbers comms stock = record {
  limit = refl;
  machine_is = refl;
  exact = refl;
  changes = refl;
  made = λ c few. zeros c;
  few = refl;
  numbers_are = refl;
}

runs_play : NoChoice → KeepsExact → Grows → (numbers : Numbers) (comms : ℕ) (ps : List PlayedLine) (input : List ℕ) (stock : List Registered) → Runs (new_manager comms numbers) ps
    → lines_of input ≡ lines_in ps → HasEnough stock (λ w. registered_by numbers w (lines_in ps)) → said_in ps ≡ played numbers (limits_of comms) stock input
runs_play law keeps grows numbers comms ps input stock runs is enough =
    let start : Standing = record { history = []; stock = stock } in
    run_turns law keeps grows numbers comms start (new_manager comms numbers) ps 0 (stands_new numbers comms stock) enough refl runs
    ∙ ap (λ (ls : List (List ℕ)). (played_from numbers (limits_of comms) start 0 ls).text) (sym is)

pub scripts : NoChoice → KeepsExact → Grows → LinesPlayScripts
scripts law keeps grows = record {
  exact = λ comms numbers ps input runs is.
      let wanted : StockKind → ℕ = λ w. registered_by numbers w (lines_in ps) in
      runs_play law keeps grows numbers comms ps input (stock_of wanted) runs is (stock_has_enough wanted);
  at_least = λ comms numbers ps input stock runs is enough. runs_play law keeps grows numbers comms ps input stock runs is enough;
}

-- ---- any calls

asked_turn : NoChoice → KeepsExact → Grows → (numbers : Numbers) (comms : ℕ) (more : StockKind → ℕ) (now : Standing) (d : CountedCore) (number : ℕ) (opening : Option Name)
    (asked : Option (Reading (ℕ × Request))) (after : CountedCore) (result : CallResult) → StandsAt numbers comms now d → HasEnough now.stock (λ w. registered_if w asked + more w)
    → AnswersIf d number opening asked after result → Turned numbers comms more (turn_if (limits_of comms) now number asked) after result
asked_turn law keeps grows numbers comms more now d number opening None after result stands enough t = nothing_turn numbers comms more now d after result stands enough t
asked_turn law keeps grows numbers comms more now d number opening (Some r) after result stands enough t =
    reading_turn law keeps grows numbers comms more now d number opening r after result stands enough t

input_turned : NoChoice → KeepsExact → Grows → (numbers : Numbers) (comms : ℕ) (more : StockKind → ℕ) (now : Standing) (d : CountedCore) (number : ℕ) (input : Input) (after : CountedCore)
    (result : CallResult) → StandsAt numbers comms now d → HasEnough now.stock (λ w. registered_if w input.asked + more w) → Handles d number input after result
    → Turned numbers comms more (turn_if (limits_of comms) now number input.asked) after result
unfolding Handles
input_turned law keeps grows numbers comms more now d number input after result stands enough t =
    asked_turn law keeps grows numbers comms more now d number input.opening input.asked after result stands enough t

-- ---- a register from C

abbrev is_free_if : Option Kind → Bool
is_free_if None = false
is_free_if (Some kind) = is_free kind

numbered_by : (widget plain echoing opaque : Bool) → is_free_if (if widget then Some kind.Widget else if plain then Some kind.Plain else if echoing then Some kind.WidgetEcho else if opaque then Some kind.Opaque else None) ≡ false
numbered_by true plain echoing opaque = refl
numbered_by false true echoing opaque = refl
numbered_by false false true opaque = refl
numbered_by false false false true = refl
numbered_by false false false false = refl

no_number_is_free : (n : ℕ) → is_free_if (kind_numbered n) ≡ false
no_number_is_free n = numbered_by (n == 2) (n == 3) (n == 4) (n == 5)

new_target_turned : NoChoice → KeepsExact → Grows → (numbers : Numbers) (comms : ℕ) (more : StockKind → ℕ) (now : Standing) (d : CountedCore) (number : ℕ) (client : message.Reading ℕ)
    (new : Kind) (name : Name) (after : CountedCore) (result : CallResult) → StandsAt numbers comms now d → HasEnough now.stock more → is_free new ≡ false
    → RegistersBy client d number new name after result → Turned numbers comms more (new_target_turn (limits_of comms) now number client new name) after result
new_target_turned law keeps grows numbers comms more now d number (Ok client) new name after result stands enough kept t =
    change_turn law keeps grows numbers comms more now d client (Register name new 0) after result now.stock stands kept t enough
new_target_turned law keeps grows numbers comms more now d number (Err fault) new name after result stands enough kept t =
    gives_turn numbers comms more now d after (call_result.Bad number (Message fault) []) (bad_line number (Message fault)) result stands refl enough t

register_turned : NoChoice → KeepsExact → Grows → (numbers : Numbers) (comms : ℕ) (more : StockKind → ℕ) (now : Standing) (k : ManagerState) (client : ℕ) (new : Option Kind) (name : Name)
    (after : ManagerState) → StandsAt numbers comms now k.counted_core → HasEnough now.stock more → is_free_if new ≡ false → RegistersKind k client new name after
    → (after.number ≡ k.number + 1) × Turned numbers comms more (register_turn (limits_of comms) now (k.number + 1) client new name) after.counted_core after.call_result
register_turned law keeps grows numbers comms more now k client None name after stands enough kept t = absurd t
register_turned law keeps grows numbers comms more now k client (Some new) name after stands enough kept t =
    (t.0, new_target_turned law keeps grows numbers comms more now k.counted_core (k.number + 1) (below 4 (Some (pos client))) new name after.counted_core after.call_result stands enough kept t.1)

-- ---- calls one after another

call_turned : NoChoice → KeepsExact → Grows → (numbers : Numbers) (comms : ℕ) (more : StockKind → ℕ) (now : Standing) (k : ManagerState) (request : CallRequest) (after : ManagerState)
    → StandsAt numbers comms now k.counted_core → HasEnough now.stock (λ w. registered_by_call w request + more w) → PlaysCall k request after
    → (after.number ≡ k.number + 1) × Turned numbers comms more (call_turn (limits_of comms) now (k.number + 1) request) after.counted_core after.call_result
call_turned law keeps grows numbers comms more now k (AsksFor input) after stands enough plays =
    (plays.0, input_turned law keeps grows numbers comms more now k.counted_core (k.number + 1) input after.counted_core after.call_result stands enough plays.1)
call_turned law keeps grows numbers comms more now k (RegistersNew client kind name) after stands enough plays =
    register_turned law keeps grows numbers comms more now k client (kind_numbered kind) name after stands
    (less now.stock (λ w. 0 + more w) more (λ w. at_most_sum 0 (more w)) enough) (no_number_is_free kind) plays

run_calls : NoChoice → KeepsExact → Grows → (numbers : Numbers) (comms : ℕ) (now : Standing) (k : ManagerState) (ps : List PlayedCall) (n : ℕ) → StandsAt numbers comms now k.counted_core
    → HasEnough now.stock (λ w. registered_by_calls w (requests_in ps)) → k.number ≡ n → RunsCalls k ps → said_to ps ≡ said_from (limits_of comms) now n (requests_in ps)
run_calls law keeps grows numbers comms now k [] n stands enough is runs = refl
run_calls law keeps grows numbers comms now k (p ∷ ps) n stands enough is runs =
    let first : Turn = call_turn (limits_of comms) now (n + 1) p.0 in
    let more : StockKind → ℕ = λ w. registered_by_calls w (requests_in ps) in
    let both : (p.1.number ≡ k.number + 1) × Turned numbers comms more (call_turn (limits_of comms) now (k.number + 1) p.0) p.1.counted_core p.1.call_result =
    call_turned law keeps grows numbers comms more now k p.0 p.1 stands enough runs.0 in
    let t : Turned numbers comms more first p.1.counted_core p.1.call_result =
    subst (λ (i : ℕ). Turned numbers comms more (call_turn (limits_of comms) now (i + 1) p.0) p.1.counted_core p.1.call_result) is both.1 in
    ap (λ (x : List ℕ). x ++ said_to ps) t.0
    ∙ ap (λ (x : List ℕ). first.text ++ x) (run_calls law keeps grows numbers comms first.after p.1 ps (n + 1) t.1.0 t.1.1 (both.0 ∙ ap (λ (i : ℕ). i + 1) is) runs.1)

pub calls : NoChoice → KeepsExact → Grows → CallsPlayScripts
calls law keeps grows comms numbers ps stock runs enough =
    run_calls law keeps grows numbers comms (record { history = []; stock = stock }) (new_manager comms numbers) ps 0 (stands_new numbers comms stock) enough refl runs
