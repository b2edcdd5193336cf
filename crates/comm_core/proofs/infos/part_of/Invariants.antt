use Rattle.std.proofs.Common.{◌≡◌, take, filter}
use Rattle.std.specs.Str.{bytes_eq}
use Rattle.comm_core.proofs.infos.part_of.Given as goal

abbrev pub invariant-loop-info : goal.invariant-loop-info
invariant-loop-info l = l.all.items ≡ filter (λ i. bytes_eq l.name i.target) (take l.info-index l.info-items)
