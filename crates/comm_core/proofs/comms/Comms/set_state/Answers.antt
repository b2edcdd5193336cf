use Rattle.std.proofs.Common.{◌≡◌, None, Some, refl, ap, sym, rules}
use Rattle.std.specs.Str.{bytes_eq}
use Rattle.std.specs.Map.{lookup}
use Rattle.ordered_table.specs.Table.{entries}
use Rattle.comm_core.specs.Kept.{IsCurrent, pairs_of}
use Rattle.comm_core.proofs.Kept.{current_with_state, still_current}
use Rattle.comm_core.proofs.comms.Comms.set_state.Goals as goal

pub invariant_of-self : goal.invariant_of-self
invariant_of-self c =
    let before = c.self.inside in
    (elim (lookup (bytes_eq c.args.id.now) (entries before.all)) as (λ o. lookup (bytes_eq c.args.id.now) (entries before.all) ≡ o → IsCurrent before.kept (entries c.update_at.new.self)) [
      | None ↦ λ none. still_current before.kept (entries before.all) _ c.self.invariant (ap pairs_of (c.update_at.ensures.absent none))
      | Some x ↦ λ found.
          let put = c.update_at.ensures.entries x found in
          let same : put.0.target ≡ x.target = search (rules, put.1) in
          current_with_state before.kept (bytes_eq c.args.id.now) (entries before.all) _ x put.0 c.self.invariant put.2 (sym found) same
    ]) refl
