-- What a client of a manager that threads share does for what a call asks for. A history `before` is all that was made
-- until the call came in; it begins with all that the client had seen.
use Rattle.std.specs.Prelude.{◌≡◌, ℕ, ◌+◌, ◌≤◌, List, [], ◌∷◌, length, Option, Some, None, option_map, Ok, Err}
use mathlib.Core.List.{IsPrefix}
use Rattle.comm_value.specs.declared.from_json.Numbers.{Numbers}
use Rattle.comm_messages.specs.declared.outgoing.Outgoing.TheVariants as out
use Rattle.comm_targets.specs.declared.kind.Kind.{Kind}
use Rattle.comm_core.specs.History.{IsLegal, replay}
use Rattle.comm_core.specs.Machine.{Machine, Name}
use Rattle.comm_core.specs.Reads.{infos, state_of}
use Rattle.comm_core.specs.declared.call.Call.{Call}
use Rattle.comm_core.specs.declared.call.Call.TheVariants as call
use Rattle.comm_script.specs.Line.{Reading}
use Rattle.comm_script.specs.declared.asked.Request.{Request}
use Rattle.comm_script.specs.declared.asked.Request.TheVariants.{Change, Register, Infos, State}
use Rattle.comm_versions.specs.Known.{Known}
use Rattle.comm_shared.specs.SharedView.{HasMade, HasMadeNone, HasRead, SharedView, newcomer, seats, seen_of}
use Rattle.comm_c.specs.ClientState.{ClientState}
use Rattle.comm_c.specs.Handles.{closes_of, target_kind}
use Rattle.comm_c.specs.Inputs.{Tested}
use Rattle.comm_c.specs.Subject.{subject_of, target_of}
use Rattle.comm_c.specs.declared.call_result.CallResult.{CallResult}
use Rattle.comm_c.specs.declared.call_result.CallResult.TheVariants as call_result
use Rattle.comm_c.specs.declared.call_result.MadeChange.{MadeChange}
use Rattle.comm_c.specs.declared.input.Input.{Input}

-- the machine of one thread after this history
abbrev pub machine_of : Known → Machine
machine_of k = replay k.origin.limit k.entries

-- the machine of one thread after all that the client has seen
abbrev pub machine_seen : SharedView → Machine
machine_seen v = replay v.origin.limit v.own.seen

-- ---- a change

-- The change was made and is answered: it is the last entry of the history. The result tells its place in the history,
-- its number among those of its seat, what it is about, its reply and what went out.
pub record HasChanged (old new : SharedView) (before after : Known) (asked : Call) (change : MadeChange) : Type 0 where
  pub is_made : HasMade old new asked change.number change.reply change.sent before after
  pub client_is : change.client ≡ old.own.client
  pub call_is : change.call ≡ new.own.number
  pub subject_is : change.subject ≡ subject_of (machine_of before) asked

-- the same, of the result that is kept
abbrev pub GivesChange : (old new : SharedView) (before after : Known) → Call → CallResult → Type 0
GivesChange old new before after asked (call_result.Change change) = HasChanged old new before after asked change
GivesChange old new before after asked _ = ⊥

-- a new target of the kind, as a change
abbrev pub GivesRegister : (old new : SharedView) (before after : Known) → Kind → Name → CallResult → Type 0
GivesRegister old new before after kind name result =
    GivesChange old new before after (call.Register name kind 0) result

-- ---- a call that changes nothing

-- it has now seen the whole history, which is legal and begins with all that it had seen
pub record HasCaughtUp (old new : SharedView) (before : Known) : Type 0 where
  pub made_none : HasMadeNone old new
  pub later : IsPrefix old.own.seen new.own.seen
  pub seen_is : seen_of new ≡ before
  pub legal : IsLegal before.origin.clients before.origin.limit before.entries

-- nothing changes, and this is the result
pub record GivesAfter (old new : SharedView) (before after : Known) (given result : CallResult) : Type 0 where
  pub caught_up : HasCaughtUp old new before
  pub same : after ≡ before
  pub result_is : result ≡ given

-- ---- what an input asks for

abbrev pub infos_result : SharedView → Known → Option Name → CallResult
infos_result old before target =
    call_result.Infos old.own.client (length before.entries) (out.InfoReply (infos (machine_of before) target) ∷ [])

abbrev pub state_result : Known → Name → CallResult
state_result before id = call_result.State (length before.entries) (state_of (machine_of before) id)

abbrev pub ClientExecutes : (old new : SharedView) (before after : Known) → Request → CallResult → Type 0
ClientExecutes old new before after (Change asked) result = GivesChange old new before after asked result
ClientExecutes old new before after (Register kind name) result =
    GivesRegister old new before after (target_kind kind) name result
ClientExecutes old new before after (Infos target) result =
    GivesAfter old new before after (infos_result old before target) result
ClientExecutes old new before after (State id) result =
    GivesAfter old new before after (state_result before id) result

-- by what a call was read as, or the first test that failed; which client it names doesn't count
abbrev pub ClientAnswersReading : (old new : SharedView) (before after : Known) → (number : ℕ) → Option Name
    → Reading (ℕ × Request) → CallResult → Type 0
ClientAnswersReading old new before after number opening (Ok m) result = ClientExecutes old new before after m.1 result
ClientAnswersReading old new before after number opening (Err fault) result =
    GivesAfter old new before after (call_result.Bad number fault (closes_of (machine_of before) opening)) result

abbrev pub ClientAnswersIf : (old new : SharedView) (before after : Known) → (number : ℕ) → Option Name
    → Option (Reading (ℕ × Request)) → CallResult → Type 0
ClientAnswersIf old new before after number opening None result =
    GivesAfter old new before after call_result.Nothing result
ClientAnswersIf old new before after number opening (Some reading) result =
    ClientAnswersReading old new before after number opening reading result

-- the client's call of this number
unfoldable pub ClientAnswers : (old new : SharedView) (before after : Known) → (number : ℕ) → Input → CallResult
    → Type 0
ClientAnswers old new before after number input result =
    ClientAnswersIf old new before after number input.opening input.asked result

-- ---- a client's next call

pub record ClientPlays (k : ClientState) (before : Known) (input : Input) (n : ClientState) (after : Known) : Type 0 where
  pub number_is : n.number ≡ k.number + 1
  pub numbers_are : n.numbers ≡ k.numbers
  pub answers : ClientAnswers k.view n.view before after (k.number + 1) input n.call_result

-- the same, of a call whose tests hold
abbrev pub ClientPlaysTested : ClientState → Known → Tested → ClientState → Known → Type 0
ClientPlaysTested k before (Ok input) n after = ClientPlays k before input n after
ClientPlaysTested k before (Err fault) n after = ⊥

-- it registers a new target of the kind under the name
pub record ClientRegisters (k : ClientState) (before : Known) (kind : Kind) (name : Name) (n : ClientState)
    (after : Known) : Type 0 where
  pub number_is : n.number ≡ k.number + 1
  pub numbers_are : n.numbers ≡ k.numbers
  pub registers : GivesRegister k.view n.view before after kind name n.call_result

-- ---- reads, which enter nothing

-- What the client has then seen is a legal history of at least `since` entries, which begins with all that it had seen.
-- This is the result.
pub record ClientReads (k : ClientState) (since : ℕ) (n : ClientState) (given : CallResult) : Type 0 where
  pub reads : HasRead (seen_of k.view) (seen_of n.view) since (length n.view.own.seen)
  pub made_none : HasMadeNone k.view n.view
  pub number_is : n.number ≡ k.number + 1
  pub numbers_are : n.numbers ≡ k.numbers
  pub result_is : n.call_result ≡ given

-- each answer is the one-thread manager's after what the client has then seen
abbrev pub ReadsState : (since : ℕ) (id : Name) → ClientState → ClientState → Type 0
ReadsState since id k n =
    ClientReads k since n (call_result.State (length n.view.own.seen) (state_of (machine_seen n.view) id))

abbrev pub ReadsInfos : (since : ℕ) (target : Option Name) → ClientState → ClientState → Type 0
ReadsInfos since target k n =
    ClientReads k since n (call_result.Infos n.view.own.client (length n.view.own.seen)
    (out.InfoReply (infos (machine_seen n.view) target) ∷ []))

abbrev pub ReadsTarget : (since : ℕ) (id : Name) → ClientState → ClientState → Type 0
ReadsTarget since id k n =
    ClientReads k since n (call_result.Target (length n.view.own.seen) (target_of (machine_seen n.view) id))

-- ---- new clients

-- the first client of a new manager: nothing was made, and it has had no call
pub record IsFirstClient (comms : ℕ) (numbers : Numbers) (n : ClientState) : Type 0 where
  pub limit_is : n.view.origin.limit ≡ comms
  pub clients_are : n.view.origin.clients ≡ seats
  pub none_seen : n.view.own.seen ≡ []
  pub number_is : n.number ≡ 0
  pub result_is : n.call_result ≡ call_result.Nothing
  pub numbers_are : n.numbers ≡ numbers

-- another client of the manager of one, which has seen the whole history and has had no call
pub record IsNewcomer (k : ClientState) (n : ClientState) : Type 0 where
  pub history : Known
  pub seat : ℕ
  pub origin_is : history.origin ≡ k.view.origin
  pub view_is : n.view ≡ newcomer history seat
  pub number_is : n.number ≡ 0
  pub result_is : n.call_result ≡ call_result.Nothing
  pub numbers_are : n.numbers ≡ k.numbers
