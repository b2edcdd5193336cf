-- The changes of a manager since it was made are a legal history, whatever its targets answer, so that the
-- core's laws over whole runs hold of it.
use Rattle.std.specs.Prelude.{◌≡◌, ℕ, ◌≤◌, ◌<◌, false, List, [], ◌++◌, length, slice_index}
use Rattle.comm_value.specs.declared.from_json.Numbers.{Numbers}
use Rattle.comm_targets.specs.declared.kind.Kind.{Kind}
use Rattle.comm_core.specs.History.{IsLegal, has_end, mine, replay}
use Rattle.comm_core.specs.Machine.{Name}
use Rattle.comm_core.specs.Ready.{machine}
use Rattle.comm_core.specs.declared.entry.Entry.{Entry}
use Rattle.comm_c.specs.ManagerState.{ManagerState, Plays, RegistersTarget, new_manager}
use Rattle.comm_c.specs.declared.counted_core.CountedCore.{CountedCore}
use Rattle.comm_c.specs.declared.input.Input.{Input}

-- it is in the state after this legal history, and has counted its changes
pub record HasMade (history : List Entry) (d : CountedCore) : Type 0 where
  pub legal : IsLegal 4 d.core.limit history
  pub goes_on : has_end history ≡ false
  pub machine_is : machine d.core ≡ replay d.core.limit history
  pub changes : d.changes ≡ length history
  pub made : (c : ℕ) → c < 4 → slice_index d.made c ≡ length (mine history c)
  pub clients : length d.made ≡ 4

-- after this history it has made one change more, or none
pub record MakesOne (history : List Entry) (after : CountedCore) : Type 0 where
  pub more : List Entry
  pub one : length more ≤ 1
  pub has : HasMade (history ++ more) after

-- each call is one of these: what it asks for is an input, whether it came as a line, as a message or from the kernel
pub record CallsMakeLegalHistories : Type 0 where
  pub first : (comms : ℕ) (numbers : Numbers) → HasMade [] (new_manager comms numbers).counted_core
  pub call : (history : List Entry) (k : ManagerState) (input : Input) (after : ManagerState)
      → HasMade history k.counted_core → Plays k input after → MakesOne history after.counted_core
  pub register : (history : List Entry) (k : ManagerState) (client : ℕ) (kind : Kind) (name : Name)
      (after : ManagerState)
      → HasMade history k.counted_core → RegistersTarget k client kind name after
      → MakesOne history after.counted_core
