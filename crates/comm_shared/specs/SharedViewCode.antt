-- The value that contracts see of a client as one that gives it back, by which a proof tells it apart.
use Rattle.std.specs.Prelude.{refl}
use Rattle.std.specs.Coded.{Coded, code_by, coded×}
use Rattle.comm_versions.specs.ClientView.{ClientView}
use Rattle.comm_versions.specs.Code.{client_code, origin_code}
use Rattle.comm_versions.specs.Known.{Origin}
use Rattle.comm_shared.specs.SharedView.{SharedView}

abbrev pub shared_view_code : Coded SharedView
shared_view_code =
    code_by (Origin × ClientView) (coded× origin_code client_code) (λ c. (c.origin, c.own))
    (λ p. record { origin = p.0; own = p.1 }) (λ _. refl)
