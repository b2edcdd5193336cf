use Rattle.std.proofs.Common.{◌++◌, sym, ap, ◌∙◌, arith}
use Rattle.comm_json.specs.Text.{members_text}
use Rattle.comm_value.specs.ToJson.{json_members}
use Rattle.comm_value.specs.View.{members_of}
use Rattle.comm_value.proofs.Openings.{opening}
use Rattle.comm_value.proofs.Flat.{opened, closed}
use Rattle.comm_value.proofs.Smaller.{item_smaller, value_smaller}
use Rattle.comm_value.proofs.json_text.+json_text.Goals as goal

pub write_members-write_value-requires : goal.write_members-write_value-requires
write_members-write_value-requires t c = omega (
  arith,
  value_smaller _ c.loop-chunk.chunk-index c.chunk-item.result c.deref.result.now _ c.loop-member.member-index c.member-item.result _ c.loop-chunk-test.true c.chunk-item.is c.deref.ensures c.as_slice-member-items.ensures
      c.loop-member-test.true c.member-item.is c.chunks-chunk-items.ensures.shown,
  c.decreases,
)

pub write_members-loop-member-init : goal.write_members-loop-member-init
write_members-loop-member-init t c =
    ap (λ l. c.loop-chunk.out.items ++ (opening c.loop-chunk.later 123 ++ members_text c.loop-chunk.later (json_members (members_of l)))) (sym (opened _ c.loop-chunk.chunk-index c.chunk-item.result c.deref.result.now _ c.loop-chunk-test.true c.chunk-item.is c.deref.ensures c.as_slice-member-items.ensures)) ∙ c.loop-chunk.invariant

pub write_members-loop-chunk-preserved : goal.write_members-loop-chunk-preserved
write_members-loop-chunk-preserved t c =
    ap (λ l. c.loop-member.out.items ++ (opening c.loop-member.later 123 ++ members_text c.loop-member.later (json_members (members_of l)))) (sym (closed _ c.loop-member.member-index _ c.loop-member-test.false)) ∙ c.loop-member.invariant

pub write_items-write_value-requires : goal.write_items-write_value-requires
write_items-write_value-requires t c = omega (arith, item_smaller _ c.loop-item.item-index c.item-item.result _ c.loop-item-test.true c.item-item.is c.as_slice-item-items.ensures, c.decreases)
