-- How many comms are open as one is closed.
use Rattle.std.proofs.Common.{◌≡◌, ℕ, ◌+◌, ◌≤◌, true, false, cond, ◌||◌, List, [], ◌∷◌, length, Option, Some, None, arith}
use Rattle.std.specs.Str.{bytes_eq}
use Rattle.comm_targets.specs.OpenComms.{CanCommit}
use Rattle.comm_targets.specs.Meaning.{has_id, without}
use Rattle.comm_targets.specs.declared.staged_event.StagedEvent.{StagedEvent}

pub one_less : (id : List ℕ) (ids : List (List ℕ)) → has_id ids id ≡ true → length (without id ids) + 1 ≡ length ids
one_less id [] h = cc
one_less id (x ∷ ids) h =
    let more = one_less id ids in
    (elim (bytes_eq id x) as (λ b. (b || has_id ids id) ≡ true → length (cond b ids (x ∷ without id ids)) + 1 ≡ length (x ∷ ids)) [
      | true ↦ λ _. omega arith
      | false ↦ λ l. let m = more l in omega arith
    ]) h

pub fewer_can : (staged : Option StagedEvent) (count before : ℕ) → count ≤ before → CanCommit staged before → CanCommit staged count
fewer_can None count before less h = tt
fewer_can (Some s) count before less h = λ opens. let had = h opens in omega (arith, less, had)
