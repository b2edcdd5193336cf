use Rattle.std.proofs.Common.{◌≡◌, drop, subst, ◌<◌, ◌+◌, ◌-◌, ◌/◌, ℕ, length, ap, sym, ◌∙◌, arith}
use Rattle.std.specs.Ordering.{is_lt}
use Rattle.comm_versions.specs.Chunks.{IsBelowFirst, comms_in, id_cmp}
use Rattle.comm_versions.proofs.Positions.{is_less}
use Rattle.comm_versions.proofs.Flat.{filled_items}
use Rattle.comm_versions.proofs.Around.{absent_from, below_from}
use Rattle.comm_versions.proofs.search.chunk_of.Goals as goal

pub bounds-comms-0 : goal.bounds-comms-0
bounds-comms-0 c =
    let i : ℕ = c.loop-low.low + (c.loop-low.high - c.loop-low.low) / 2 in
    let within : i < length c.args.chunks.now = omega arith in
    filled_items _ i c.index-chunks-middle.result c.deref.result.now _ within c.index-chunks-middle.is c.deref.ensures c.as_slice-comms.ensures.value c.requires.filled

pub loop-low-preserved-then-is_above : goal.loop-low-preserved-then-is_above
loop-low-preserved-then-is_above c =
    let i : ℕ = c.loop-low.low + (c.loop-low.high - c.loop-low.low) / 2 in
    let within : i < length c.args.chunks.now = omega arith in
    let some = filled_items _ i c.index-chunks-middle.result c.deref.result.now _ within c.index-chunks-middle.is c.deref.ensures c.as_slice-comms.ensures.value c.requires.filled in
    let less = is_less (id_cmp c.args.id.now c.index-comms-0.result.0) (sym c.is_above.ensures ∙ c.if-is_above.true) in (
      omega arith,
      omega arith,
      c.loop-low.invariant.2,
      absent_from _ _ i c.index-chunks-middle.result c.deref.result.now _ c.index-comms-0.result within c.index-chunks-middle.is c.deref.ensures c.as_slice-comms.ensures.value some c.index-comms-0.is less,
    )

pub loop-low-preserved : goal.loop-low-preserved
loop-low-preserved c =
    let i : ℕ = c.loop-low.low + (c.loop-low.high - c.loop-low.low) / 2 in
    let within : i < length c.args.chunks.now = omega arith in
    let some = filled_items _ i c.index-chunks-middle.result c.deref.result.now _ within c.index-chunks-middle.is c.deref.ensures c.as_slice-comms.ensures.value c.requires.filled in (
      omega arith,
      c.loop-low.invariant.1,
      below_from _ _ i c.index-chunks-middle.result c.deref.result.now _ c.index-comms-0.result within c.index-chunks-middle.is c.deref.ensures c.as_slice-comms.ensures.value some c.index-comms-0.is c.requires.ordered
          (λ less. cc (sym c.is_above.ensures ∙ c.if-is_above.false, ap is_lt less)),
      c.loop-low.invariant.3,
    )

pub returns-clause-above : goal.returns-clause-above
returns-clause-above c =
    let last : c.loop-low.high ≡ c.loop-low.low + 1 = omega arith in subst (λ n. IsBelowFirst c.args.id.now (comms_in (drop n c.args.chunks.now))) last c.loop-low.invariant.3
