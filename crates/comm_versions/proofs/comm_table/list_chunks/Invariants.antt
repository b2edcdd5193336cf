use Rattle.std.proofs.Common.{◌≡◌, ◌++◌, take, map, filter}
use Rattle.std.specs.Prelude.{option_map}
use Rattle.comm_core.specs.Reads.{info_of, passes}
use Rattle.comm_versions.specs.Chunks.{comms_in}
use Rattle.comm_versions.proofs.comm_table.list_chunks.Given as goal

abbrev pub invariant-loop-chunk : goal.invariant-loop-chunk
invariant-loop-chunk l = l.all.items ≡ l.initial.all.items ++ map info_of (filter (λ e. passes (option_map (λ t. t.now) l.fn.asked) e.1.target) (comms_in (take l.chunk-index l.chunks)))
