-- The ids of a target as its comms are opened and get messages.
use Rattle.std.proofs.Common.{◌≡◌, ℕ, List, [], ◌∷◌, ◌++◌, Bool, true, false, ◌||◌, cond, Option, None, Some, refl, sym, ap, ◌∙◌}
use Rattle.std.proofs.lemmas.Slice.Eq.{bytes_eq-Decides}
use Rattle.std.specs.Str.{bytes_eq}
use Rattle.comm_messages.specs.Content.{Content}
use Rattle.comm_targets.specs.Meaning.{Meaning, has_id, without, is_message, notes_after, ids_after, after_prepare, after_commit}
use Rattle.comm_targets.specs.declared.staged_event.StagedEvent.{StagedEvent}
use Rattle.comm_targets.specs.declared.answer.Answer.{Answer}
use Rattle.comm_targets.specs.declared.event.Event.{Event}
use Rattle.comm_targets.specs.declared.event.Event.TheVariants.{Open, Msg, Launch, Push}

same_id : (id : List ℕ) → bytes_eq id id ≡ true
same_id id = (bytes_eq-Decides id id).1 refl

pub has_id-only : (id : List ℕ) → has_id (id ∷ []) id ≡ true
has_id-only id = rw (same_id id) refl

pub without-only : (id : List ℕ) → without id (id ∷ []) ≡ []
without-only id = rw (same_id id) refl

ids_after-message : (ids : List (List ℕ)) (e : Event) → is_message e ≡ true → ids_after ids e ≡ ids
ids_after-message ids (Msg id body) said = refl
ids_after-message ids (Open id version body) said = cc
ids_after-message ids (Launch id state) said = cc
ids_after-message ids (Push id state) said = cc

-- new is what the commit of an event leaves of old
abbrev pub Commits : Meaning → Meaning → Event → Answer → Type 0
Commits old new e a = (mid : Meaning) × (mid ≡ after_prepare old e a) × ((s : StagedEvent) → mid.staged ≡ Some s → new ≡ after_commit mid s)

pub unstaged : (old new : Meaning) (e : Event) (a : Answer) → Commits old new e a → new.staged ≡ None
unstaged old new e a c = ap (λ m. m.staged) (c.2 (record { event = e; answer = a }) (ap (λ m. m.staged) c.1))

pub ids_now : (old new : Meaning) (e : Event) (a : Answer) → Commits old new e a → new.ids ≡ ids_after old.ids e
ids_now old new e a c =
    ap (λ m. m.ids) (c.2 (record { event = e; answer = a }) (ap (λ m. m.staged) c.1)) ∙ ap (λ m. ids_after m.ids e) c.1

pub ids_unchanged : (old new : Meaning) (e : Event) (a : Answer) → Commits old new e a → is_message e ≡ true → new.ids ≡ old.ids
ids_unchanged old new e a c said = ids_now old new e a c ∙ ids_after-message old.ids e said
