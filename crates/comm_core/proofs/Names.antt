-- The machine's targets are those of the targets.
use Rattle.std.proofs.Common.{◌≡◌, Option, None, Some, is_some, option_map, refl, ap, ◌∙◌}
use Rattle.std.specs.Str.{bytes_eq}
use Rattle.comm_core.specs.Machine.{Name, at, has}
use Rattle.comm_core.specs.Tables.{Targets, registered_of, targets_of}
use Rattle.comm_core.proofs.Entries.{lookup-map}

pub is_some-map : {X Y : Type 0} (f : X → Y) (o : Option X) → is_some (option_map f o) ≡ is_some o
is_some-map f None = refl
is_some-map f (Some x) = refl

pub target_at : (targets : Targets) (name : Name) → at (targets_of targets) name ≡ option_map registered_of (at targets name)
target_at targets name = lookup-map (λ k. k) registered_of (bytes_eq name) targets

pub has_target : (targets : Targets) (name : Name) → has (targets_of targets) name ≡ has targets name
has_target targets name = ap is_some (target_at targets name) ∙ is_some-map registered_of (at targets name)
