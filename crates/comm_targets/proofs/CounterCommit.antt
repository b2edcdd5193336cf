-- What the commit of a counter leaves.
use Rattle.std.proofs.Common.{◌≡◌, ℕ, cond, None, Some, refl, ap, ◌∙◌}
use Rattle.comm_targets.specs.OpenComms.{OpenAndStaged}
use Rattle.comm_targets.specs.Meaning.{Meaning, after_commit, one_more, ids_after, stages_message, is_message}
use Rattle.comm_targets.specs.declared.staged_event.StagedEvent.{StagedEvent}
use Rattle.comm_targets.specs.declared.kind.Kind.TheVariants.{Counter}

abbrev pub counts : ℕ → OpenAndStaged → Meaning
counts n b = record { kind = Counter; notes = n; ids = b.ids; staged = b.staged }

-- m is the count after, where a message is staged one more
pub counter_commits : (n m : ℕ) (old new : OpenAndStaged) (s : StagedEvent)
    → old.staged ≡ Some s
    → new ≡ record { ids = ids_after old.ids s.event; staged = None }
    → m ≡ cond (stages_message old.staged) (one_more n) n
    → counts m new ≡ after_commit (counts n old) s
counter_commits n m old new s staged after count =
    let is_count : m ≡ cond (is_message s.event) (one_more n) n = count ∙ ap (λ o. cond (stages_message o) (one_more n) n) staged in
    rw (after, is_count) refl
