use Rattle.std.proofs.Common.{◌≡◌, ◌++◌, take, map, filter}
use Rattle.std.specs.Prelude.{option_map}
use Rattle.comm_core.specs.Reads.{info_of, passes}
use Rattle.comm_versions.proofs.comm_table.list_all.Given as goal

abbrev pub invariant-loop-prefixed_comm : goal.invariant-loop-prefixed_comm
invariant-loop-prefixed_comm l = l.all.items ≡ l.initial.all.items ++ map info_of (filter (λ e. passes (option_map (λ t. t.now) l.fn.asked) e.1.target) (take l.prefixed_comm-index l.comms))
