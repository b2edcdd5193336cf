use Rattle.std.proofs.Common.{◌≡◌, ◌++◌, refl, ap, ◌∙◌}
use Rattle.comm_versions.specs.Chunks.{comms_in}
use Rattle.comm_versions.proofs.Flat.{both_flat, filled_rest}
use Rattle.comm_versions.proofs.chunks.join_two.Goals as goal

pub set_chunk-requires-clause-filled : goal.set_chunk-requires-clause-filled
set_chunk-requires-clause-filled c = filled_rest c.args.chunks.now.items _ c.args.place c.remove.ensures.items c.requires.filled

pub returns-clause-comms_in : goal.returns-clause-comms_in
returns-clause-comms_in c =
    let i = c.args.place in
    let ps = c.args.chunks.now.items in
    let rest = c.remove.new.self.items in
    let xs = c.as_slice-first.result.now in
    let ys = c.as_slice-second.result.now in
    let both = c.copy_all-2.new.all.items in
    let is : both ≡ xs ++ ys = c.in_ok-copy_all-2.ensures ∙ ap (λ l. l ++ ys) (c.in_ok-copy_all.ensures ∙ ap (λ l. l ++ xs) c.in_ok-both.ensures.items) in
    both_flat ps ps rest i c.index.result.now c.index-2.result.now c.deref.result.now c.deref-2.result.now xs ys both (comms_in c.set_chunk.new.chunks.items) refl c.requires.within
    c.index.ensures c.deref.ensures c.as_slice-first.ensures.value c.index-2.ensures c.deref-2.ensures c.as_slice-second.ensures.value c.remove.ensures.items is c.in_ok-set_chunk.ensures.comms_in
