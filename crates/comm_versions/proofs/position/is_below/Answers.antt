use Rattle.std.proofs.Common.{◌<◌, sym, ◌∙◌, length, arith}
use Rattle.comm_versions.specs.Chunks.{id_cmp}
use Rattle.comm_versions.proofs.Flat.{filled_items}
use Rattle.comm_versions.proofs.Around.{absent_from}
use Rattle.comm_versions.proofs.Positions.{is_less}
use Rattle.comm_versions.proofs.position.is_below.Goals as goal

pub bounds-comms-0 : goal.bounds-comms-0
bounds-comms-0 c =
    let within : c.args.from < length c.args.chunks.now = omega arith in
    filled_items _ c.args.from c.index-chunks-from.result c.deref.result.now _ within c.index-chunks-from.is c.deref.ensures c.as_slice-comms.ensures.value c.requires.filled

pub returns : goal.returns
returns c holds =
    let within : c.args.from < length c.args.chunks.now = omega arith in
    let some = filled_items _ c.args.from c.index-chunks-from.result c.deref.result.now _ within c.index-chunks-from.is c.deref.ensures c.as_slice-comms.ensures.value c.requires.filled in
    let less = is_less (id_cmp c.args.id.now c.index-comms-0.result.0) (sym c.is_above.ensures ∙ holds) in
    absent_from c.args.id.now c.args.chunks.now c.args.from c.index-chunks-from.result c.deref.result.now c.as_slice-comms.result.now c.index-comms-0.result within c.index-chunks-from.is c.deref.ensures c.as_slice-comms.ensures.value some c.index-comms-0.is less
