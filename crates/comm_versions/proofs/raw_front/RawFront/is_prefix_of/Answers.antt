use Rattle.std.proofs.Common.{ap, subst, refl, List}
use mathlib.Core.List.{IsPrefix}
use Rattle.comm_core.specs.declared.entry.Entry.{Entry}
use Rattle.comm_versions.proofs.Fronts.{prefix_tested}
use Rattle.comm_versions.proofs.raw_front.RawFront.is_prefix_of.Goals as goal

pub returns : goal.returns
returns c =
    let both = c.learn.new.self.log in
    let this : IsPrefix c.self.inside.seen.log both = subst (λ (l : List Entry). IsPrefix l both) (ap (λ s. s.log) c.again-both.ensures) c.learn.ensures.2 in
    record {
      begins = rw (← c.self.view_is, ← c.other.view_is) (prefix_tested c.self.inside.seen.log c.other.inside.seen.log both c.self.inside.count c.other.inside.count c.self.invariant.0 c.other.invariant.0 this c.learn.ensures.3 _ refl);
    }
