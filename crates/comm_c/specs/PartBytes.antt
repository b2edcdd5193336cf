-- The bytes of a part.
use Rattle.std.specs.Prelude.{ℕ, List}
use Rattle.comm_c.specs.declared.part_bytes.PartBytes.{PartBytes}
use Rattle.comm_c.specs.declared.part_bytes.PartBytes.TheVariants.{Borrowed, Shared, Written}

abbrev pub bytes_of_part : PartBytes → List ℕ
bytes_of_part (Borrowed bytes) = bytes.now
bytes_of_part (Shared bytes) = bytes
bytes_of_part (Written bytes) = bytes.items
