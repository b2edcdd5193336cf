-- A manager between its calls.
use Rattle.std.specs.Prelude.{◌≡◌, ℕ, ◌+◌, ◌≤◌, ◌^◌, Bool, true, List, Ok, Err}
use Rattle.comm_value.specs.declared.from_json.Numbers.{Numbers}
use Rattle.comm_core.specs.declared.limits.Limits.{Limits}
use Rattle.comm_core.specs.Machine.{Name}
use Rattle.comm_targets.specs.declared.kind.Kind.{Kind}
use Rattle.comm_c.specs.CallResult.{result_text}
use Rattle.comm_c.specs.CountedCore.{HasMadeAtMost, fresh_counted_core}
use Rattle.comm_c.specs.Handles.{Handles, RegistersFor}
use Rattle.comm_c.specs.Inputs.{Tested}
use Rattle.comm_c.specs.declared.call_result.CallResult.{CallResult}
use Rattle.comm_c.specs.declared.call_result.CallResult.TheVariants.{Nothing}
use Rattle.comm_c.specs.declared.counted_core.CountedCore.{CountedCore}
use Rattle.comm_c.specs.declared.input.Input.{Input}

-- a core with its counts, how many calls were made, and the result of the last one
pub record ManagerState : Type 0 where
  pub counted_core : CountedCore
  pub number : ℕ
  pub call_result : CallResult

-- it has had at most 2^62 calls, and where a text was written it is the last result's
pub record IsUsable (d : CountedCore) (n : ℕ) (result : CallResult) (is_written : Bool) (text : List ℕ) : Type 0 where
  pub settled : d.core.settled ≡ true
  pub within : HasMadeAtMost n d
  pub room : n ≤ 2 ^ 62
  pub written : is_written ≡ true → text ≡ result_text result

-- with no call made, this limit of comms, and these numbers as values
abbrev pub new_manager : ℕ → Numbers → ManagerState
new_manager comms numbers = record {
  counted_core = fresh_counted_core comms numbers;
  number = 0;
  call_result = Nothing;
}

-- the limits of a manager with this limit of comms
abbrev pub limits_of : ℕ → Limits
limits_of comms = record { clients = 4; comms = comms; history = 4294967295; outbox = 65536 }

-- it does what is asked for as its next call, and keeps the result
abbrev pub Plays : ManagerState → Input → ManagerState → Type 0
Plays k input after =
    (after.number ≡ k.number + 1)
    × Handles k.counted_core (k.number + 1) input after.counted_core after.call_result

-- the same, of a call whose tests hold
abbrev pub PlaysTested : ManagerState → Tested → ManagerState → Type 0
PlaysTested k (Ok input) after = Plays k input after
PlaysTested k (Err fault) after = ⊥

-- it registers a new target for a client, as its next call, and keeps the result
abbrev pub RegistersTarget : ManagerState → ℕ → Kind → Name → ManagerState → Type 0
RegistersTarget k client kind name after =
    (after.number ≡ k.number + 1)
    × RegistersFor k.counted_core (k.number + 1) client kind name after.counted_core after.call_result
