use Rattle.std.proofs.Common.{◌≡◌, drop, subst, sym, ◌<◌, ◌+◌, ◌-◌, ◌/◌, ℕ, length, Equal, Greater, arith, add-one}
use Rattle.comm_versions.specs.Chunks.{IsBelowFirst}
use Rattle.comm_versions.proofs.Ids.{below_at, below_found, found_at, seen}
use Rattle.comm_versions.proofs.search.place_of.Goals as goal

pub returns-in-Equal-clause-found : goal.returns-in-Equal-clause-found
returns-in-Equal-clause-found c =
    let i : ℕ = c.loop-low.low + (c.loop-low.high - c.loop-low.low) / 2 in
    let within : i < length c.args.comms.now = omega arith in
    let same = seen c.args.id.now c.args.comms.now i c.index-comms-middle.result Equal c.in-Equal.ensures c.index-comms-middle.is in
    (within, below_found _ _ i _ c.requires.ordered within same, found_at _ _ i _ within same)

pub loop-low-preserved : goal.loop-low-preserved
loop-low-preserved c =
    let i : ℕ = c.loop-low.low + (c.loop-low.high - c.loop-low.low) / 2 in
    let within : i < length c.args.comms.now = omega arith in
    let same = seen c.args.id.now c.args.comms.now i c.index-comms-middle.result Greater c.in-Greater.ensures c.index-comms-middle.is in
    (omega arith, omega arith, rw add-one (below_at _ _ i _ c.requires.ordered within same), c.loop-low.invariant.3)

pub loop-low-preserved-then-starts_below : goal.loop-low-preserved-then-starts_below
loop-low-preserved-then-starts_below c =
    let i : ℕ = c.loop-low.low + (c.loop-low.high - c.loop-low.low) / 2 in
    let within : i < length c.args.comms.now = omega arith in
    let same = seen c.args.id.now c.args.comms.now i c.index-comms-middle.result Greater (sym (c.starts_below.ensures c.if-starts_below.true)) c.index-comms-middle.is in
    (omega arith, omega arith, rw add-one (below_at _ _ i _ c.requires.ordered within same), c.loop-low.invariant.3)

pub returns-clause-absent : goal.returns-clause-absent
returns-clause-absent c =
    let last : c.loop-low.high ≡ c.loop-low.low = omega arith in
    (omega arith, c.loop-low.invariant.2, subst (λ n. IsBelowFirst c.args.id.now (drop n c.args.comms.now)) last c.loop-low.invariant.3)
