use Rattle.std.proofs.Common.{◌<◌, length, sym, subst}
use Rattle.std.specs.Arc.{arc_value}
use Rattle.comm_versions.proofs.Flat.{filled_set}
use Rattle.comm_versions.proofs.Positions.{put_some, put_position}
use Rattle.comm_versions.proofs.changing.put_at.Goals as goal

pub returns-then-fits-clause-upsert : goal.returns-then-fits-clause-upsert
returns-then-fits-clause-upsert c =
    put_position c.args.chunks.now.items c.args.comm c.args.position.now c.requires.position c.index_mut.result.now c.put_into.new.chunk c.index_mut.ensures.value c.in_ok-put_into.ensures

pub returns-then-fits-clause-filled : goal.returns-then-fits-clause-filled
returns-then-fits-clause-filled c =
    filled_set c.args.chunks.now.items c.args.position.now.chunk c.put_into.new.chunk (subst (λ es. 0 < length es) (sym c.in_ok-put_into.ensures) (put_some (arc_value c.index_mut.result.now).items c.args.comm)) c.requires.filled
