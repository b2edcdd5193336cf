use Rattle.std.proofs.Common.{◌≡◌, [], List, subst}
use Rattle.std.specs.Prelude.{All}
use Rattle.comm_core.specs.declared.entry.Entry.{Entry}
use Rattle.comm_manager.proofs.Gathering.{all_start}
use Rattle.comm_manager.proofs.builder.with_client.Goals as goal

pub returns-in_err-push-clause-none : goal.returns-in_err-push-clause-none
returns-in_err-push-clause-none g c =
    all_start (λ (r : List Entry). r ≡ []) c.pop.new.self.items _ (subst (λ (l : List (List Entry)). All (λ r. r ≡ []) l) c.pop.ensures.items c.requires.none)

pub returns-clause-none : goal.returns-clause-none
returns-clause-none g c =
    all_start (λ (r : List Entry). r ≡ []) c.pop.new.self.items _ (subst (λ (l : List (List Entry)). All (λ r. r ≡ []) l) c.pop.ensures.items c.requires.none)
