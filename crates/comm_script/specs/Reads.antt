-- How often a script's reader is called.
use Rattle.std.specs.Prelude.{ℕ}

-- at most so often for one script
abbrev pub max_reads : ℕ
max_reads = 4294967295
