-- A client between its calls as a value that gives it back, by which a proof tells it apart.
use Rattle.std.specs.Prelude.{ℕ, refl}
use Rattle.std.specs.Coded.{Coded, code_by, coded×, coded_ℕ}
use Rattle.comm_value.specs.declared.from_json.Numbers.{Numbers}
use Rattle.comm_value.specs.contracts.from_json.Numbers as numbers
use Rattle.comm_shared.specs.SharedView.{SharedView}
use Rattle.comm_shared.specs.SharedViewCode.{shared_view_code}
use Rattle.comm_c.specs.ClientState.{ClientState}
use Rattle.comm_c.specs.contracts.call_result.CallResult as call_result
use Rattle.comm_c.specs.declared.call_result.CallResult.{CallResult}

abbrev pub client_state_code : Coded ClientState
client_state_code =
    code_by (SharedView × (ℕ × (CallResult × Numbers)))
    (coded× shared_view_code (coded× coded_ℕ (coded× call_result.the_row.coded numbers.the_row.coded)))
    (λ k. (k.view, (k.number, (k.call_result, k.numbers))))
    (λ p. record { view = p.0; number = p.1.0; call_result = p.1.1.0; numbers = p.1.1.1 }) (λ _. refl)
