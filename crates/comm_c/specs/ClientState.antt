-- A client of a manager that threads share, between its calls.
use Rattle.std.specs.Prelude.{ℕ}
use Rattle.comm_value.specs.declared.from_json.Numbers.{Numbers}
use Rattle.comm_shared.specs.SharedView.{SharedView}
use Rattle.comm_c.specs.declared.call_result.CallResult.{CallResult}

-- Which history it belongs to, and of that its seat, what it made and what it has seen; how many calls it has had; the
-- result of the last one; and which numbers are values.
pub record ClientState : Type 0 where
  pub view : SharedView
  pub number : ℕ
  pub call_result : CallResult
  pub numbers : Numbers
