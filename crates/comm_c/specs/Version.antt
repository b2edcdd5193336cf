-- Which version of the library this is. `rolgunai.h` has the same.
use Rattle.std.specs.Prelude.{ℕ}

-- 1,000,000 times the first number of the version, 1,000 times the second, and the third: 0.1.0
abbrev pub version : ℕ
version = 1000
