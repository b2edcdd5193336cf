-- What a core does for what a call asks for.
use Rattle.std.specs.Prelude.{◌≡◌, ℕ, pos, ◌<◌, List, [], ◌∷◌, Option, Some, None, Ok, Err, if◌then◌else◌}
use Rattle.comm_messages.specs.declared.outgoing.Outgoing.{Outgoing}
use Rattle.comm_messages.specs.declared.outgoing.Outgoing.TheVariants as out
use Rattle.comm_core.specs.Machine.{Machine, Name, has}
use Rattle.comm_core.specs.Ready.{HandsNothingIn, machine}
use Rattle.comm_core.specs.Reads.{infos, state_of}
use Rattle.comm_messages.specs.Fields.{below}
use Rattle.comm_messages.specs.Gives.{Reading as MessageReading}
use Rattle.comm_targets.specs.declared.kind.Kind.{Kind}
use Rattle.comm_targets.specs.declared.kind.Kind.TheVariants as kinds
use Rattle.comm_script.specs.Command.{HandsNothing}
use Rattle.comm_script.specs.Line.{Reading}
use Rattle.comm_script.specs.declared.asked.LineFault.TheVariants.{Message}
use Rattle.comm_script.specs.declared.asked.Request.{Request}
use Rattle.comm_script.specs.declared.asked.Request.TheVariants.{Change, Register, Infos, State}
use Rattle.comm_script.specs.declared.stock.StockKind.{StockKind}
use Rattle.comm_script.specs.declared.stock.StockKind.TheVariants.{Echo, Counter, Widget, WidgetEcho}
use Rattle.comm_c.specs.CountedCore.{Changes, Registers}
use Rattle.comm_c.specs.declared.call_result.CallResult.{CallResult}
use Rattle.comm_c.specs.declared.call_result.CallResult.TheVariants as call_result
use Rattle.comm_c.specs.declared.counted_core.CountedCore.{CountedCore}
use Rattle.comm_c.specs.declared.input.Input.{Input}

-- the kind of target that a line registers
abbrev pub target_kind : StockKind → Kind
target_kind Echo = kinds.Echo
target_kind Counter = kinds.Counter
target_kind Widget = kinds.Widget
target_kind WidgetEcho = kinds.WidgetEcho

-- nothing changes, and this is the result
abbrev pub GivesOnly : CountedCore → CallResult → CountedCore → CallResult → Type 0
GivesOnly d given after result = (after ≡ d) × (result ≡ given)

-- a register makes a new target; any other request hands no target in
abbrev pub Executes : CountedCore → ℕ → Request → CountedCore → CallResult → Type 0
Executes d client (Change asked) after result = HandsNothingIn asked × Changes d client asked after result
Executes d client (Register kind name) after result = Registers d client (target_kind kind) name after result
Executes d client (Infos target) after result =
    GivesOnly d (call_result.Infos client d.changes (out.InfoReply (infos (machine d.core) target) ∷ [])) after result
Executes d client (State id) after result =
    GivesOnly d (call_result.State d.changes (state_of (machine d.core) id)) after result

-- The frontend that opens a comm by what can't be read waits for a close. A comm that is open under the id stays, and
-- so no close goes out: it would end that one.
abbrev pub closes_of : Machine → Option Name → List Outgoing
closes_of m None = []
closes_of m (Some id) = if has m.comms id then [] else out.Close id ∷ []

-- by what a call was read as, or the first test that failed
abbrev pub AnswersReading : CountedCore → ℕ → Option Name → Reading (ℕ × Request) → CountedCore → CallResult → Type 0
AnswersReading d number opening (Ok m) after result = Executes d m.0 m.1 after result
AnswersReading d number opening (Err fault) after result =
    GivesOnly d (call_result.Bad number fault (closes_of (machine d.core) opening)) after result

-- a blank line asks for nothing
abbrev pub AnswersIf : CountedCore → ℕ → Option Name → Option (Reading (ℕ × Request)) → CountedCore → CallResult
    → Type 0
AnswersIf d number opening None after result = GivesOnly d call_result.Nothing after result
AnswersIf d number opening (Some reading) after result = AnswersReading d number opening reading after result

-- the call of this number
unfoldable pub Handles : CountedCore → ℕ → Input → CountedCore → CallResult → Type 0
Handles d number input after result = AnswersIf d number input.opening input.asked after result

-- ---- a register from C, which has more kinds than lines have

abbrev pub RegistersBy : MessageReading ℕ → CountedCore → ℕ → Kind → Name → CountedCore → CallResult → Type 0
RegistersBy (Ok client) d number kind name after result = Registers d client kind name after result
RegistersBy (Err fault) d number kind name after result =
    GivesOnly d (call_result.Bad number (Message fault) []) after result

-- for this client, if there is one
abbrev pub RegistersFor : CountedCore → ℕ → ℕ → Kind → Name → CountedCore → CallResult → Type 0
RegistersFor d number client kind name after result =
    RegistersBy (below 4 (Some (pos client))) d number kind name after result

-- ---- what is known of an input

-- it is of one of four clients, and hands no target in
abbrev pub IsAllowedReading : Reading (ℕ × Request) → Type 0
IsAllowedReading (Ok m) = (m.0 < 4) × HandsNothing m.1
IsAllowedReading (Err fault) = Unit {0}

abbrev pub IsAllowedIf : Option (Reading (ℕ × Request)) → Type 0
IsAllowedIf None = Unit {0}
IsAllowedIf (Some reading) = IsAllowedReading reading

abbrev pub IsAllowed : Input → Type 0
IsAllowed input = IsAllowedIf input.asked
