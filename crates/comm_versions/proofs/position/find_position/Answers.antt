use Rattle.comm_versions.proofs.Flat.{first_is}
use Rattle.comm_versions.proofs.Ids.{ordered_chunk}
use Rattle.comm_versions.proofs.Around.{around}
use Rattle.std.proofs.Common.{ap, subst, ◌∙◌}
use Rattle.comm_versions.specs.Chunks.{StandsAt}
use Rattle.comm_versions.proofs.Positions.{searched_there}
use Rattle.comm_versions.proofs.position.find_position.Goals as goal

pub place_of-at-requires-clause-ordered : goal.place_of-at-requires-clause-ordered
place_of-at-requires-clause-ordered c =
    ordered_chunk _ _ _ _ (around c.args.chunks.now c.chunk_of-chunk.result c.index-chunks-chunk.result c.deref.result.now c.as_slice.result.now c.chunk_of-chunk.ensures.within c.index-chunks-chunk.is c.deref.ensures c.as_slice.ensures.value) c.requires.ordered

pub returns : goal.returns
returns c =
    record {
      some = record {
        one = c.index-chunks-chunk.result;
        here = first_is c.args.chunks.now c.chunk_of-chunk.result c.index-chunks-chunk.result c.chunk_of-chunk.ensures.within c.index-chunks-chunk.is;
        below = c.chunk_of-chunk.ensures.below;
        above = c.chunk_of-chunk.ensures.above;
        there = subst (λ es. StandsAt c.args.id.now es c.place_of-at.result) (c.as_slice.ensures.value ∙ ap (λ v. v.items) c.deref.ensures) (searched_there c.args.id.now c.as_slice.result.now c.place_of-at.result c.place_of-at.ensures.found c.place_of-at.ensures.absent);
      };
      none = tt;
    }
