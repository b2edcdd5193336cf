-- A manager between its calls as a value that gives it back, by which a proof tells it apart.
use Rattle.std.specs.Prelude.{ℕ, refl}
use Rattle.std.specs.Coded.{Coded, code_by, coded×, coded_ℕ}
use Rattle.comm_c.specs.ManagerState.{ManagerState}
use Rattle.comm_c.specs.declared.counted_core.CountedCore.{CountedCore}
use Rattle.comm_c.specs.declared.call_result.CallResult.{CallResult}
use Rattle.comm_c.specs.contracts.counted_core.CountedCore as counted_core
use Rattle.comm_c.specs.contracts.call_result.CallResult as call_result

abbrev pub manager_state_code : Coded ManagerState
manager_state_code =
    code_by (CountedCore × (ℕ × CallResult))
    (coded× counted_core.the_row.coded (coded× coded_ℕ call_result.the_row.coded))
    (λ k. (k.counted_core, (k.number, k.call_result)))
    (λ p. record { counted_core = p.0; number = p.1.0; call_result = p.1.1 }) (λ _. refl)
