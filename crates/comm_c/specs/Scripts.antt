-- The lines that a manager has played since it was made, and what it said to them: a script, and what
-- `played` gives for it. The same of calls that ask for anything.
use Rattle.std.specs.Prelude.{◌≡◌, ℕ, ◌+◌, ◌≤◌, List, [], ◌∷◌, ◌++◌, map, replicate, Bool, true, false}
use Rattle.std.specs.Prelude.{Option, Some, None, Ok, Err, if◌then◌else◌, pos}
use Rattle.comm_value.specs.declared.from_json.Numbers.{Numbers}
use Rattle.comm_targets.specs.declared.kind.Kind.{Kind}
use Rattle.comm_messages.specs.Fields.{below}
use Rattle.comm_messages.specs.Gives.{Reading as MessageReading}
use Rattle.comm_core.specs.Machine.{Name, Registered}
use Rattle.comm_core.specs.declared.call.Call.TheVariants as call
use Rattle.comm_core.specs.declared.limits.Limits.{Limits}
use Rattle.comm_script.specs.Command.{asked}
use Rattle.comm_script.specs.Line.{Reading}
use Rattle.comm_script.specs.Lines.{is_blank, lines_of}
use Rattle.comm_script.specs.Played.{Standing, Turn, answered, called, played, says}
use Rattle.comm_script.specs.Stock.{has_kind}
use Rattle.comm_script.specs.Words.{bad_line}
use Rattle.comm_script.specs.declared.asked.LineFault.TheVariants.{Message}
use Rattle.comm_script.specs.declared.asked.Request.{Request}
use Rattle.comm_script.specs.declared.asked.Request.TheVariants.{Change, Register, Infos, State}
use Rattle.comm_script.specs.declared.stock.StockKind.{StockKind}
use Rattle.comm_script.specs.declared.stock.StockKind.TheVariants.{Echo, Counter, Widget, WidgetEcho}
use Rattle.comm_c.specs.CallResult.{result_text}
use Rattle.comm_c.specs.Codes.{kind_numbered}
use Rattle.comm_c.specs.Exports.{RegistersKind}
use Rattle.comm_c.specs.Handles.{target_kind}
use Rattle.comm_c.specs.Inputs.{line_input}
use Rattle.comm_c.specs.ManagerState.{ManagerState, Plays, limits_of, new_manager}
use Rattle.comm_c.specs.declared.input.Input.{Input}

-- a line, and the manager once it has played it
abbrev pub PlayedLine : Type 0
PlayedLine = List ℕ × ManagerState

-- it plays these lines, one after the other
abbrev pub Runs : ManagerState → List PlayedLine → Type 0
Runs k [] = Unit {0}
Runs k (p ∷ ps) = Plays k (line_input k.counted_core.numbers p.0) p.1 × Runs p.1 ps

abbrev pub lines_in : List PlayedLine → List (List ℕ)
lines_in ps = map (λ p. p.0) ps

-- what it says to them in all
abbrev pub said_in : List PlayedLine → List ℕ
said_in [] = []
said_in (p ∷ ps) = result_text p.1.call_result ++ said_in ps

-- ---- the targets that the lines register

abbrev pub one_if : Bool → ℕ
one_if true = 1
one_if false = 0

abbrev pub registered_by_request : StockKind → Request → ℕ
registered_by_request w (Change call) = 0
registered_by_request w (Register kind name) = one_if (has_kind w (target_kind kind))
registered_by_request w (Infos target) = 0
registered_by_request w (State id) = 0

abbrev pub registered_by_reading : StockKind → Reading (ℕ × Request) → ℕ
registered_by_reading w (Ok m) = registered_by_request w m.1
registered_by_reading w (Err fault) = 0

-- how many targets of the kind these lines register
abbrev pub registered_by : Numbers → StockKind → List (List ℕ) → ℕ
registered_by numbers w [] = 0
registered_by numbers w (line ∷ lines) =
    (if is_blank line then 0 else registered_by_reading w (asked numbers 4 line)) + registered_by numbers w lines

-- ---- calls that ask for anything

-- What a call asks for: an input, or, from C, a new target of the kind that has this number, for a client and under a
-- name.
pub data CallRequest : Type 0 where
  AsksFor : Input → CallRequest
  RegistersNew : (client kind : ℕ) → Name → CallRequest

-- what a call asks for, and the manager once it has done it
abbrev pub PlayedCall : Type 0
PlayedCall = CallRequest × ManagerState

-- it does what the call asks for
abbrev pub PlaysCall : ManagerState → CallRequest → ManagerState → Type 0
PlaysCall k (AsksFor input) after = Plays k input after
PlaysCall k (RegistersNew client kind name) after = RegistersKind k client (kind_numbered kind) name after

-- it does what these ask for, one after the other
abbrev pub RunsCalls : ManagerState → List PlayedCall → Type 0
RunsCalls k [] = Unit {0}
RunsCalls k (p ∷ ps) = PlaysCall k p.0 p.1 × RunsCalls p.1 ps

abbrev pub requests_in : List PlayedCall → List CallRequest
requests_in ps = map (λ p. p.0) ps

-- what it says to them in all
abbrev pub said_to : List PlayedCall → List ℕ
said_to [] = []
said_to (p ∷ ps) = result_text p.1.call_result ++ said_to ps

abbrev pub registered_if : StockKind → Option (Reading (ℕ × Request)) → ℕ
registered_if w None = 0
registered_if w (Some reading) = registered_by_reading w reading

-- a register from C brings its own target
abbrev pub registered_by_call : StockKind → CallRequest → ℕ
registered_by_call w (AsksFor input) = registered_if w input.asked
registered_by_call w (RegistersNew client kind name) = 0

-- how many targets of the kind these register
abbrev pub registered_by_calls : StockKind → List CallRequest → ℕ
registered_by_calls w [] = 0
registered_by_calls w (c ∷ cs) = registered_by_call w c + registered_by_calls w cs

-- what a script says to a line that was read so
abbrev pub turn_if : Limits → Standing → ℕ → Option (Reading (ℕ × Request)) → Turn
turn_if limits now number None = says now []
turn_if limits now number (Some reading) = answered limits now number reading

-- what it says where a client that was read so registers a target that isn't of its stock
abbrev pub new_target_turn : Limits → Standing → ℕ → MessageReading ℕ → Kind → Name → Turn
new_target_turn limits now number (Ok client) kind name =
    called limits now client (call.Register name kind 0) now.stock
new_target_turn limits now number (Err fault) kind name = says now (bad_line number (Message fault))

abbrev pub register_turn : Limits → Standing → (number client : ℕ) → Option Kind → Name → Turn
register_turn limits now number client None name = says now []
register_turn limits now number client (Some kind) name =
    new_target_turn limits now number (below 4 (Some (pos client))) kind name

-- what it says to the call of this number
abbrev pub call_turn : Limits → Standing → ℕ → CallRequest → Turn
call_turn limits now number (AsksFor input) = turn_if limits now number input.asked
call_turn limits now number (RegistersNew client kind name) =
    register_turn limits now number client (kind_numbered kind) name

-- what it says to calls that ask for these, numbered from n on
abbrev pub said_from : Limits → Standing → ℕ → List CallRequest → List ℕ
said_from limits now n [] = []
said_from limits now n (c ∷ cs) =
    let first = call_turn limits now (n + 1) c in first.text ++ said_from limits first.after (n + 1) cs

-- ---- stocks for scripts

-- a target that no message has come to
abbrev pub fresh : Kind → Registered
fresh kind = record { kind = kind; notes = 0 }

-- just so many new targets of each kind
abbrev pub stock_of : (StockKind → ℕ) → List Registered
stock_of wanted =
    replicate (wanted Echo) (fresh (target_kind Echo)) ++ (replicate (wanted Counter) (fresh (target_kind Counter))
    ++ (replicate (wanted Widget) (fresh (target_kind Widget))
    ++ replicate (wanted WidgetEcho) (fresh (target_kind WidgetEcho))))

-- how many targets of the kind there are
abbrev pub count_in : StockKind → List Registered → ℕ
count_in w [] = 0
count_in w (r ∷ rs) = one_if (has_kind w r.kind) + count_in w rs

abbrev pub AreFresh : List Registered → Type 0
AreFresh [] = Unit {0}
AreFresh (r ∷ rs) = (r.notes ≡ 0) × AreFresh rs

-- new targets, of each kind at least so many
pub record HasEnough (stock : List Registered) (wanted : StockKind → ℕ) : Type 0 where
  pub are_fresh : AreFresh stock
  pub enough : (w : StockKind) → wanted w ≤ count_in w stock

-- ---- the law

-- The lines that were played since the manager was made are a script's, and what was said is what that script
-- gives: over a stock of just as many new targets of each kind as they register, and over any stock that has
-- at least as many.
pub record LinesPlayScripts : Type 0 where
  pub exact : (comms : ℕ) (numbers : Numbers) (ps : List PlayedLine) (input : List ℕ)
      → Runs (new_manager comms numbers) ps → lines_of input ≡ lines_in ps
      → said_in ps ≡ played numbers (limits_of comms) (stock_of (λ w. registered_by numbers w (lines_in ps))) input
  pub at_least : (comms : ℕ) (numbers : Numbers) (ps : List PlayedLine) (input : List ℕ) (stock : List Registered)
      → Runs (new_manager comms numbers) ps → lines_of input ≡ lines_in ps
      → HasEnough stock (λ w. registered_by numbers w (lines_in ps))
      → said_in ps ≡ played numbers (limits_of comms) stock input

-- What was said to calls that ask for anything, a register from C too, since the manager was made, is what a script
-- says to lines that were read so, over any stock that has as many new targets of each kind as the lines register.
abbrev pub CallsPlayScripts : Type 0
CallsPlayScripts = (comms : ℕ) (numbers : Numbers) (ps : List PlayedCall) (stock : List Registered)
    → RunsCalls (new_manager comms numbers) ps → HasEnough stock (λ w. registered_by_calls w (requests_in ps))
    → said_to ps ≡ said_from (limits_of comms) (record { history = []; stock = stock }) 0 (requests_in ps)
