use Rattle.std.proofs.Common.{◌≡◌, ◌<◌, ◌+◌, ◌-◌, ◌/◌, ℕ, length, Less, sym, ap, ◌∙◌, arith}
use Rattle.comm_value.specs.declared.val.Member.{Member}
use Rattle.comm_value.specs.Order.{key_cmp}
use Rattle.comm_value.proofs.Flat.{filled_items}
use Rattle.comm_value.proofs.ChunkLemmas.{absent_from, below_from}
use Rattle.comm_value.proofs.chunks.chunk_of.Goals as goal

pub bounds-members-0 : goal.bounds-members-0
bounds-members-0 c =
    let i : ℕ = c.loop-low.low + (c.loop-low.high - c.loop-low.low) / 2 in
    let within : i < length c.args.chunks.now = omega arith in
    filled_items _ i c.index-chunks-middle.result c.deref.result.now _ within c.index-chunks-middle.is c.deref.ensures c.as_slice-members.ensures c.requires.filled

pub loop-low-preserved-in-Less : goal.loop-low-preserved-in-Less
loop-low-preserved-in-Less c =
    let i : ℕ = c.loop-low.low + (c.loop-low.high - c.loop-low.low) / 2 in
    let within : i < length c.args.chunks.now = omega arith in
    let some = filled_items _ i c.index-chunks-middle.result c.deref.result.now _ within c.index-chunks-middle.is c.deref.ensures c.as_slice-members.ensures c.requires.filled in
    let less : key_cmp c.args.key.now c.index-members-0.result.key ≡ Less = ap (λ (m : Member). key_cmp c.args.key.now m.key) c.index-members-0.is ∙ ap (key_cmp c.args.key.now) (sym c.as_str.ensures) ∙ sym c.in-Less.ensures in (
      omega arith,
      omega arith,
      c.loop-low.invariant.2,
      absent_from _ _ i c.index-chunks-middle.result c.deref.result.now _ c.index-members-0.result within c.index-chunks-middle.is c.deref.ensures c.as_slice-members.ensures some c.index-members-0.is less,
    )

pub loop-low-preserved : goal.loop-low-preserved
loop-low-preserved c =
    let i : ℕ = c.loop-low.low + (c.loop-low.high - c.loop-low.low) / 2 in
    let within : i < length c.args.chunks.now = omega arith in
    let some = filled_items _ i c.index-chunks-middle.result c.deref.result.now _ within c.index-chunks-middle.is c.deref.ensures c.as_slice-members.ensures c.requires.filled in (
      omega arith,
      c.loop-low.invariant.1,
      below_from _ _ i c.index-chunks-middle.result c.deref.result.now _ c.index-members-0.result within c.index-chunks-middle.is c.deref.ensures c.as_slice-members.ensures some c.index-members-0.is c.requires.ordered
          (λ less. c.in_default.not-Less (c.cmp-order.ensures ∙ ap (key_cmp c.args.key.now) c.as_str.ensures ∙ ap (λ (m : Member). key_cmp c.args.key.now m.key) (sym c.index-members-0.is) ∙ less)),
      c.loop-low.invariant.3,
    )
