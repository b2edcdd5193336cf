-- The targets after an update of the table is taken back.
use Rattle.std.proofs.Common.{◌≡◌, Option, None, Some, Ok, Err, ap, sym, ◌∙◌, subst}
use Rattle.comm_targets.specs.Meaning.{Meaning, after_abandon}
use Rattle.comm_core.specs.Machine.{Name, at, with_at, AreDistinct}
use Rattle.comm_core.specs.Step.{Outcome}
use Rattle.comm_core.specs.Tables.{Targets, Opens, HaveStaged, unstaged}
use Rattle.comm_core.specs.Plans.{Suits, staged_by}
use Rattle.comm_core.specs.declared.target_request.TargetRequest.{TargetRequest}
use Rattle.comm_core.specs.declared.table_update.TableUpdate.{TableUpdate}
use Rattle.comm_core.specs.declared.table_update.TableUpdate.TheVariants.{Commit}
use Rattle.comm_core.proofs.Agreeing.{some-at}
use Rattle.comm_core.proofs.Staging.{unstaged-there, unstaged-same, distinct-unstaged, abandoned}

pub not_staged : (b : Targets) (table_update p : TableUpdate) (o : Option Outcome) → AreDistinct (unstaged b) → HaveStaged b (staged_by table_update o) → table_update ≡ p → ((name : Name) → staged_by p o name ≡ None) → b ≡ unstaged b
not_staged b table_update p o distinct staged is none =
    unstaged-same b (distinct-unstaged b distinct) (λ name m there. staged name m there ∙ ap (λ k. staged_by k o name) is ∙ none name)

committed : (b : Targets) (c : Opens) (registered : Option Meaning) (q : TargetRequest) (o : Option Outcome) (b2 : Targets) → AreDistinct (unstaged b) → Suits (unstaged b) c registered (Commit q) o
    → HaveStaged b (staged_by (Commit q) o) → ((m : Meaning) → at b q.name ≡ Some m → b2 ≡ with_at b q.name (after_abandon m)) → b2 ≡ unstaged b
committed b c registered q None b2 distinct suits staged back = absurd suits
committed b c registered q (Some (Err f)) b2 distinct suits staged back = absurd suits
committed b c registered q (Some (Ok a)) b2 distinct suits staged back =
    let m = some-at (at b q.name) (sym (unstaged-there b q.name) ∙ suits.0) in
    back m.0 m.1 ∙ abandoned b q.name m.0 distinct m.1 (λ name k p at_k. rw p at (staged name k at_k))

pub commit_reverted : (b : Targets) (c : Opens) (registered : Option Meaning) (q : TargetRequest) (table_update : TableUpdate) (o : Option Outcome) (b2 : Targets) → table_update ≡ Commit q → AreDistinct (unstaged b) → Suits (unstaged b) c registered table_update o
    → HaveStaged b (staged_by table_update o) → ((m : Meaning) → at b q.name ≡ Some m → b2 ≡ with_at b q.name (after_abandon m)) → b2 ≡ unstaged b
commit_reverted b c registered q table_update o b2 is distinct suits staged back =
    committed b c registered q o b2 distinct (subst (λ p. Suits (unstaged b) c registered p o) is suits) (subst (λ p. HaveStaged b (staged_by p o)) is staged) back
