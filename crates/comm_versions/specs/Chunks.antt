-- The open comms in chunks; for private clauses.
use Rattle.std.specs.Prelude.{ℕ, ◌+◌, ◌<◌, ◌≤◌, ◌≡◌, List, [], ◌∷◌, ◌++◌, length, take, drop, Vec, Result, Ok, Err}
use Rattle.std.specs.Arc.{arc_value}
use Rattle.std.specs.Ordering.{nat_cmp}
use Rattle.std.specs.Cmp.Lexicographic.{slice_cmp}
use Rattle.std.specs.List.Sorted.{IsStrictlySortedBy}
use Rattle.std.specs.Map.{keys_of}
use Rattle.std.specs.BTreeMap.{insert_entry}
use Rattle.std.specs.declared.alloc.Global.{Global}
use Rattle.std.specs.declared.cmp.Ordering.{Ordering}
use Rattle.std.specs.declared.cmp.Ordering.TheVariants.{Less, Equal, Greater}
use Rattle.std.specs.declared.sync.Arc.{Arc}
use Rattle.comm_core.specs.Machine.{Name}
use Rattle.comm_core.specs.Tables.{Opens}
use Rattle.comm_core.specs.declared.comm.Comm.{Comm}
use Rattle.comm_versions.specs.declared.position.Position.{Position}

-- by their bytes
abbrev pub id_cmp : Name → Name → Ordering
id_cmp = slice_cmp nat_cmp

-- the comms stand in the byte order of their ids, each id once
abbrev pub IsInOrder : Opens → Type 0
IsInOrder es = IsStrictlySortedBy id_cmp (keys_of es)

-- a comm in its place, or in place of the one of its id
abbrev pub upsert : Opens → Name × Comm → Opens
upsert es c = insert_entry (slice_cmp nat_cmp) es c.0 c.1

-- ---- chunks

-- some comms that follow one another
abbrev pub CommChunk : Type 0
CommChunk = Arc (Vec (Name × Comm) Global) Global

-- the comms of the chunks, one chunk after the other
abbrev pub comms_in : List CommChunk → Opens
comms_in [] = []
comms_in (p ∷ ps) = (arc_value p).items ++ comms_in ps

-- each chunk has a comm
abbrev pub AllChunksFilled : List CommChunk → Type 0
AllChunksFilled [] = Unit {0}
AllChunksFilled (p ∷ ps) = (0 < length (arc_value p).items) × AllChunksFilled ps

-- ---- where an id stands

-- the id is above each of these
abbrev pub AllIdsBelow : Name → Opens → Type 0
AllIdsBelow k [] = Unit {0}
AllIdsBelow k (e ∷ es) = (id_cmp k e.0 ≡ Greater) × AllIdsBelow k es

-- the first has the id
abbrev pub StartsWithId : Name → Opens → Type 0
StartsWithId k [] = ⊥
StartsWithId k (e ∷ es) = id_cmp k e.0 ≡ Equal

-- the id is below the first
abbrev pub IsBelowFirst : Name → Opens → Type 0
IsBelowFirst k [] = Unit {0}
IsBelowFirst k (e ∷ es) = id_cmp k e.0 ≡ Less

-- at this index the id stands, or it would stand before it
abbrev pub StandsAt : Name → Opens → Result ℕ ℕ → Type 0
StandsAt k es (Ok i) = (i < length es) × AllIdsBelow k (take i es) × StartsWithId k (drop i es)
StandsAt k es (Err i) = (i ≤ length es) × AllIdsBelow k (take i es) × IsBelowFirst k (drop i es)

-- in this chunk the id stands, or would
pub record IsPosition (ps : List CommChunk) (k : Name) (s : Position) : Type 0 where
  pub one : CommChunk
  pub here : drop s.chunk ps ≡ one ∷ drop (s.chunk + 1) ps
  pub below : AllIdsBelow k (comms_in (take s.chunk ps))
  pub above : IsBelowFirst k (comms_in (drop (s.chunk + 1) ps))
  pub there : StandsAt k (arc_value one).items s.at
