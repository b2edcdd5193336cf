use Rattle.std.proofs.Common.{ap, sym, subst, List}
use mathlib.Core.List.{IsPrefix}
use Rattle.comm_core.specs.declared.entry.Entry.{Entry}
use Rattle.comm_versions.proofs.Legal.{ended_whole}
use Rattle.comm_versions.proofs.raw_front.RawFront.learn_ended.Goals as goal

pub returns : goal.returns
returns c =
    let all = c.learn.new.self.log in
    let kept = c.learn.ensures.4.1 in
    let this : IsPrefix c.self.inside.seen.log all = subst (λ (l : List Entry). IsPrefix l all) (ap (λ s. s.log) c.again-both.ensures) c.learn.ensures.2 in
    let that = c.learn.ensures.3 in
    rw (← c.self.view_is, ← c.other.view_is)
    (λ ended. subst (λ (l : List Entry). IsPrefix c.self.inside.seen.log l)
    (sym (ended_whole kept.clients kept.limit c.an_end_comes_last.ensures c.other.inside.seen.log all kept.legal ended that.0 that.1)) this)
