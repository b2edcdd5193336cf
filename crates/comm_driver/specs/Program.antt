-- The program: what it plays within, what it has in stock, what its arguments ask for, and its exit status.
use Rattle.std.specs.Prelude.{ℕ, List, [], ◌∷◌, Option, Some, None, Result, ⊤, if◌then◌else◌, codes}
use Rattle.std.specs.Str.{bytes_eq}
use Rattle.comm_targets.specs.declared.kind.Kind.{Kind}
use Rattle.comm_targets.specs.declared.kind.Kind.TheVariants.{Echo, Counter, Widget, WidgetEcho}
use Rattle.comm_core.specs.declared.limits.Limits.{Limits}
use Rattle.comm_core.specs.Machine.{Registered}
use Rattle.comm_script.specs.Status.{status_of}
use Rattle.comm_script.specs.declared.fault.RunFault.{RunFault}
use Rattle.comm_driver.specs.declared.Over.{Over}
use Rattle.comm_driver.specs.declared.Over.TheVariants.{OneThread, Shared}

abbrev pub program_limits : Limits
program_limits = record { clients = 4; comms = 4096; history = 1000000; outbox = 64 }

-- a target that no message has come to
abbrev pub new_target : Kind → Registered
new_target kind = record { kind = kind; notes = 0 }

-- two targets of each kind
abbrev pub program_stock : List Registered
program_stock =
    new_target Echo ∷ new_target Echo ∷ new_target Counter ∷ new_target Counter
    ∷ new_target Widget ∷ new_target Widget ∷ new_target WidgetEcho ∷ new_target WidgetEcho ∷ []

-- no argument asks for the manager of one thread, the one word 'shared' for the one that threads share; nothing else
-- asks for any
abbrev pub over_of : List (List ℕ) → Option Over
over_of [] = Some OneThread
over_of (word ∷ []) = if bytes_eq word (codes "shared") then Some Shared else None
over_of words = None

-- the exit status, by how the script ended; 3 where no manager was asked for
abbrev pub program_status : Option (Result ⊤ RunFault) → ℕ
program_status None = 3
program_status (Some end) = status_of end
