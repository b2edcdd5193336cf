-- Tables and those that followed them; for private clauses.
use Rattle.std.specs.Prelude.{◌≡◌, Option, Some, None}
use Rattle.std.specs.Arc.{arc_value}
use Rattle.comm_core.specs.Row.{with_row}
use Rattle.comm_core.specs.Tables.{Opens}
use Rattle.comm_versions.specs.declared.table_buffers.StaleTable.{StaleTable}

-- these followed, where there are any before
abbrev pub LeadsTo : Option StaleTable → Opens → Type 0
LeadsTo None es = Unit {0}
LeadsTo (Some p) es = with_row p.row (arc_value p.root) ≡ es

-- the second ones followed the first
abbrev pub StaleLeadsTo : Option StaleTable → Option StaleTable → Type 0
StaleLeadsTo p None = Unit {0}
StaleLeadsTo p (Some q) = LeadsTo p (arc_value q.root)
