use Rattle.std.proofs.Common.{◌≡◌, ◌<◌, ◌++◌, List, length, take, drop, sym, ap, ◌∙◌, refl, arith}
use Rattle.std.specs.Arc.{arc_value}
use Rattle.comm_value.specs.declared.val.Member.{Member}
use Rattle.comm_value.specs.Put.{insert}
use Rattle.comm_value.specs.View.{tree, members_of, grouped, flat}
use Rattle.comm_value.proofs.Flat.{filled_rest, let_in_flat}
use Rattle.comm_value.proofs.Lists.{if_ok, if_both_ok}
use Rattle.comm_value.proofs.ChunkLemmas.{around, ordered_chunk, put_back}
use Rattle.comm_value.proofs.chunks.put.Goals as goal

pub put_member-requires : goal.put_member-requires
put_member-requires c =
    let within : c.chunk_of-place.result < length c.args.chunks.items = omega (arith, c.chunk_of-place.ensures.within, ap length c.as_slice.ensures.value) in
    ordered_chunk (flat c.args.chunks.items) _ c.in-Ok-Many.members.items _
    (around c.args.chunks.items c.chunk_of-place.result c.remove.result (arc_value c.remove.result) _ within c.remove.ensures.value refl (ap grouped (sym c.in-Ok-Many.field-0-is ∙ c.in-Ok-Many.ensures.ok))) c.requires.ordered

pub insert_chunk-requires-clause-filled : goal.insert_chunk-requires-clause-filled
insert_chunk-requires-clause-filled c = filled_rest c.args.chunks.items _ c.chunk_of-place.result c.remove.ensures.items c.requires.filled

pub put_shared-requires-clause-filled : goal.put_shared-requires-clause-filled
put_shared-requires-clause-filled c = filled_rest c.args.chunks.items _ c.chunk_of-place.result c.remove.ensures.items c.requires.filled

pub put_shared-requires-in-Err-clause-filled : goal.put_shared-requires-in-Err-clause-filled
put_shared-requires-in-Err-clause-filled c = filled_rest c.args.chunks.items _ c.chunk_of-place.result c.remove.ensures.items c.requires.filled

pub put_shared-requires-clause-ordered : goal.put_shared-requires-clause-ordered
put_shared-requires-clause-ordered c =
    let within : c.chunk_of-place.result < length c.args.chunks.items = omega (arith, c.chunk_of-place.ensures.within, ap length c.as_slice.ensures.value) in
    ordered_chunk (flat c.args.chunks.items) _ c.as_slice-in-Ok.result.now _
    (around c.args.chunks.items c.chunk_of-place.result c.remove.result (arc_value c.remove.result) _ within c.remove.ensures.value refl
    (c.as_slice-in-Ok.ensures ∙ ap grouped c.in-Ok.ensures.ok)) c.requires.ordered

pub put_shared-requires-in-Err-clause-ordered : goal.put_shared-requires-in-Err-clause-ordered
put_shared-requires-in-Err-clause-ordered c =
    let within : c.chunk_of-place.result < length c.args.chunks.items = omega (arith, c.chunk_of-place.ensures.within, ap length c.as_slice.ensures.value) in
    ordered_chunk (flat c.args.chunks.items) _ c.as_slice-in-Err.result.now _
    (around c.args.chunks.items c.chunk_of-place.result c.remove.result (arc_value c.remove.result) _ within c.remove.ensures.value refl
    (c.as_slice-in-Err.ensures ∙ ap grouped (c.deref.ensures ∙ ap arc_value c.in-Err.ensures.err))) c.requires.ordered

pub returns-in_ok-put_member-in-Ok-Many-clause-put : goal.returns-in_ok-put_member-in-Ok-Many-clause-put
returns-in_ok-put_member-in-Ok-Many-clause-put c =
    let i = c.chunk_of-place.result in
    let ps = c.args.chunks.items in
    let rest = c.remove.new.self.items in
    let changed = c.in_ok-put_member-in-Ok-Many.field-0.items in
    let within : i < length ps = omega (arith, c.chunk_of-place.ensures.within, ap length c.as_slice.ensures.value) in
    if_both_ok (λ all. take i all.items ≡ take i rest) (λ all. flat (drop i all.items) ≡ changed ++ flat (drop i rest))
    (λ all. members_of (flat all.items) ≡ insert c.args.member.key (tree c.args.member.value) (members_of (flat ps))) c.insert_chunk.result
    (λ all b d. put_back ps c.as_slice.result.now rest i c.remove.result c.as_str.result.now c.args.member c.in-Ok-Many.members.items changed (flat all.items) within c.as_slice.ensures.value c.as_str.ensures
    c.remove.ensures.value c.remove.ensures.items c.chunk_of-place.ensures.below c.chunk_of-place.ensures.above (ap grouped (sym c.in-Ok-Many.field-0-is ∙ c.in-Ok-Many.ensures.ok)) c.in_ok-put_member-in-Ok-Many.ensures.put
    (let_in_flat rest all.items i changed b d)) c.insert_chunk.ensures.before c.insert_chunk.ensures.behind

pub returns-in-Ok-clause-put : goal.returns-in-Ok-clause-put
returns-in-Ok-clause-put c =
    let i = c.chunk_of-place.result in
    let ps = c.args.chunks.items in
    let rest = c.remove.new.self.items in
    let ms = c.as_slice-in-Ok.result.now in
    let within : i < length ps = omega (arith, c.chunk_of-place.ensures.within, ap length c.as_slice.ensures.value) in
    if_ok (λ all. (x : List Member) × (flat all.items ≡ flat (take i rest) ++ (x ++ flat (drop i rest))) × (members_of x ≡ insert c.args.member.key (tree c.args.member.value) (members_of ms)))
    (λ all. members_of (flat all.items) ≡ insert c.args.member.key (tree c.args.member.value) (members_of (flat ps))) c.put_shared.result
    (λ all h. put_back ps c.as_slice.result.now rest i c.remove.result c.as_str.result.now c.args.member ms h.0 (flat all.items) within c.as_slice.ensures.value c.as_str.ensures
    c.remove.ensures.value c.remove.ensures.items c.chunk_of-place.ensures.below c.chunk_of-place.ensures.above
    (c.as_slice-in-Ok.ensures ∙ ap grouped c.in-Ok.ensures.ok) h.2 h.1) c.put_shared.ensures.put

pub returns-in-Err-clause-put : goal.returns-in-Err-clause-put
returns-in-Err-clause-put c =
    let i = c.chunk_of-place.result in
    let ps = c.args.chunks.items in
    let rest = c.remove.new.self.items in
    let ms = c.as_slice-in-Err.result.now in
    let within : i < length ps = omega (arith, c.chunk_of-place.ensures.within, ap length c.as_slice.ensures.value) in
    if_ok (λ all. (x : List Member) × (flat all.items ≡ flat (take i rest) ++ (x ++ flat (drop i rest))) × (members_of x ≡ insert c.args.member.key (tree c.args.member.value) (members_of ms)))
    (λ all. members_of (flat all.items) ≡ insert c.args.member.key (tree c.args.member.value) (members_of (flat ps))) c.put_shared-in-Err.result
    (λ all h. put_back ps c.as_slice.result.now rest i c.remove.result c.as_str.result.now c.args.member ms h.0 (flat all.items) within c.as_slice.ensures.value c.as_str.ensures
    c.remove.ensures.value c.remove.ensures.items c.chunk_of-place.ensures.below c.chunk_of-place.ensures.above
    (c.as_slice-in-Err.ensures ∙ ap grouped (c.deref.ensures ∙ ap arc_value c.in-Err.ensures.err)) h.2 h.1) c.put_shared-in-Err.ensures.put
