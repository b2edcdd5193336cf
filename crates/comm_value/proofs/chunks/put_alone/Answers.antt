use Rattle.std.proofs.Common.{◌<◌, ℕ, length, refl, ap, ◌∙◌, arith}
use Rattle.comm_value.proofs.Alone.{alone_put, alone_length, alone_filled}
use Rattle.comm_value.proofs.chunks.put_alone.Goals as goal

pub returns-clause-put : goal.returns-clause-put
returns-clause-put c = λ _.
    let i : ℕ = c.chunk_of-place.result in
    let within : i < length c.args.all.now.items = omega (arith, c.chunk_of-place.ensures.within, ap length c.as_slice.ensures.value) in
    alone_put c.args.all.now.items _ c.as_slice.result.now i c.index.result.now c.in_ok-all.field-0 c.args.chunk.now c.deref-2.result.now c.deref.result.now c.as_str.result.now c.in-Some-alone.before.now c.in-Some.member.now within
    c.as_slice.ensures.value c.index.ensures c.deref-2.ensures c.in-Some-alone.ensures c.deref.ensures c.in-Some.ensures c.in_ok-all.ensures c.as_str.ensures (c.if-not-is.ensures.0 refl ∙ c.as_str-2.ensures) refl
    c.chunk_of-place.ensures.below c.chunk_of-place.ensures.above

pub returns-clause-as_many : goal.returns-clause-as_many
returns-clause-as_many c =
    let i : ℕ = c.chunk_of-place.result in
    let within : i < length c.args.all.now.items = omega (arith, c.chunk_of-place.ensures.within, ap length c.as_slice.ensures.value) in
    alone_length c.args.all.now.items _ i c.index.result.now c.in_ok-all.field-0 c.args.chunk.now c.deref-2.result.now c.deref.result.now c.in-Some-alone.before.now c.in-Some.member.now within
    c.index.ensures c.deref-2.ensures c.in-Some-alone.ensures c.deref.ensures c.in-Some.ensures c.in_ok-all.ensures refl

pub returns-clause-filled : goal.returns-clause-filled
returns-clause-filled c =
    alone_filled c.args.all.now.items _ c.chunk_of-place.result c.in_ok-all.field-0 c.args.chunk.now c.deref.result.now c.in-Some.member.now c.deref.ensures c.in-Some.ensures c.in_ok-all.ensures refl c.requires.filled
