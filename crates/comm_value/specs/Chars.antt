-- The bytes of a string's characters, inline or on the heap.
use Rattle.std.specs.Prelude.{ℕ, List, string_bytes}
use Rattle.comm_value.specs.declared.chars.Chars.{Chars}
use Rattle.comm_value.specs.declared.chars.Chars.TheVariants.{Short, Long}

abbrev pub bytes_in : Chars → List ℕ
bytes_in (Short s) = s
bytes_in (Long s) = string_bytes s
