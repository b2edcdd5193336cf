-- The tables and what stands ready as values that give them back, by which a proof tells them apart.
use Rattle.std.specs.Prelude.{ℕ, List, refl}
use Rattle.std.specs.Coded.{Coded, code_by, coded×, coded_ℕ, coded_list}
use Rattle.comm_targets.specs.Meaning.{Meaning}
use Rattle.comm_targets.specs.Code.{meaning_code}
use Rattle.comm_core.specs.declared.comm.Comm.{Comm}
use Rattle.comm_core.specs.contracts.comm.Comm as comm
use Rattle.comm_core.specs.Tables.{Table}

abbrev pub table_code : {X : Type 0} → Coded X → Coded (Table X)
table_code {X} x =
    code_by (List (List ℕ × X) × ℕ) (coded× (coded_list (coded× (coded_list coded_ℕ) x)) coded_ℕ)
    (λ t. (t.all, t.room)) (λ p. record { all = p.0; room = p.1 }) (λ _. refl)

abbrev pub open_code : Coded (List ℕ × Comm)
open_code = coded× (coded_list coded_ℕ) comm.the_row.coded

abbrev pub targets_code : Coded (Table Meaning)
targets_code = table_code meaning_code

abbrev pub comms_code : Coded (Table Comm)
comms_code = table_code comm.the_row.coded
