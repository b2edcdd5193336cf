-- What a target means and what it keeps of its comms as numbers that give them back, by which a proof tells them apart.
use Rattle.std.specs.Prelude.{ℕ, List, Option, refl}
use Rattle.std.specs.Coded.{Coded, code_by, coded×, coded_ℕ, coded_list, coded_option}
use Rattle.comm_targets.specs.declared.kind.Kind.{Kind}
use Rattle.comm_targets.specs.declared.staged_event.StagedEvent.{StagedEvent}
use Rattle.comm_targets.specs.contracts.kind.Kind as kind
use Rattle.comm_targets.specs.contracts.staged_event.StagedEvent as stage
use Rattle.comm_targets.specs.Meaning.{Meaning}
use Rattle.comm_targets.specs.OpenComms.{OpenAndStaged}

abbrev pub stage_code : Coded StagedEvent
stage_code = stage.the_row.coded

abbrev pub open_and_staged_code : Coded OpenAndStaged
open_and_staged_code =
    code_by (List (List ℕ) × Option StagedEvent)
    (coded× (coded_list (coded_list coded_ℕ)) (coded_option stage.the_row.coded))
    (λ b. (b.ids, b.staged)) (λ p. record { ids = p.0; staged = p.1 }) (λ _. refl)

abbrev pub meaning_code : Coded Meaning
meaning_code =
    code_by ((Kind × ℕ) × OpenAndStaged) (coded× (coded× kind.the_row.coded coded_ℕ) open_and_staged_code)
    (λ m. ((m.kind, m.notes), record { ids = m.ids; staged = m.staged }))
    (λ p. record { kind = p.0.0; notes = p.0.1; ids = p.1.ids; staged = p.1.staged }) (λ _. refl)
