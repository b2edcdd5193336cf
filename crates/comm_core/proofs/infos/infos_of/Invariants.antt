use Rattle.std.proofs.Common.{◌≡◌, List, ◌++◌, map}
use Rattle.comm_core.specs.Kept.{shown}
use Rattle.comm_core.specs.Runs.{Pair}
use Rattle.comm_core.proofs.infos.infos_of.Given as goal

abbrev pub invariant-loop-id : goal.invariant-loop-id
invariant-loop-id l = (done : List Pair) × (l.initial.id-iterator ≡ done ++ l.id-iterator) × (l.all.items ≡ map shown done)
